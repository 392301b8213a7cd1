-- The fronts of both sides, and the sides by them.
use Rattle.std.proofs.Common.{◌≡◌, ◌≢◌, ℕ, ◌+◌, ◌||◌, ◌==◌, not, nat_lt, if◌then◌else◌, List, [], ◌∷◌, ◌++◌, length, take, drop, get_or, Option, Some, None, refl, sym, ap, ◌∙◌, subst, arith, length-take, take-take}
use Rattle.std.specs.Prelude.{IfSome}
use Rattle.std.specs.Str.{bytes_eq}
use Rattle.std.proofs.lemmas.Bool.Decides.{nat_tests}
use Rattle.std.proofs.lemmas.List.{drop-take}
use Rattle.std.proofs.Math.Seq.{take-add}
use Rattle.plant.specs.Disks.{disk}
use Rattle.plant.specs.Sides.{of_side}
use Rattle.plant.specs.Told.{Told}
use Rattle.plant.specs.declared.step.Side.{Side}
use Rattle.plant.specs.declared.step.Side.TheVariants.{A, B}
use Rattle.journal_model.specs.Journals.{magic, Blank, Foreign, Headed, head, live}
use Rattle.journal_disk.specs.Heads.{seen_live}
use Rattle.journal_disk.specs.Seen.{AreSeen}
use Rattle.journal_disk.specs.declared.heads.LiveSide.{LiveSide}
use Rattle.journal_disk.specs.declared.heads.LiveSide.TheVariants as places
use Rattle.journal_disk.specs.declared.sides.Sides.{Sides}

-- A HEAD IS THAT OF THE FRONT

front_first : (bytes : List ℕ) → get_or (take 18 bytes) 0 0 ≡ get_or bytes 0 0
front_first [] = refl
front_first (x ∷ bytes) = refl

pub front_short : (bytes : List ℕ) → nat_lt (length (take 18 bytes)) 18 ≡ nat_lt (length bytes) 18
front_short bytes = grind (arith, nat_tests, length-take 18 bytes)

front_part : (bytes : List ℕ) (from more : ℕ) → take 8 (drop from (take (from + (8 + more)) bytes)) ≡ take 8 (drop from bytes)
front_part bytes from more = ap (λ (l : List ℕ). take 8 l) (drop-take from (8 + more) bytes) ∙ take-take 8 (8 + more) (drop from bytes) (omega arith)

pub front_head : (bytes : List ℕ) → head (take 18 bytes) ≡ head bytes
front_head bytes = λ i.
    if front_short bytes i || not (front_first bytes i == 165) then Blank
    else if bytes_eq (front_part bytes 1 9 i) magic then Headed (front_part bytes 9 1 i)
    else Foreign

-- THE BYTES OF A SIDE: all of them where the disk is told of, and else those at the front

abbrev pub whole_of : Option Told → Side → List ℕ → List ℕ
whole_of None side front = front
whole_of (Some t) side front = (disk side t.trace).reads

pub whole_head : (told : Option Told) (side : Side) (front : List ℕ) → IfSome told (λ t. front ≡ take 18 (disk side t.trace).reads) → head front ≡ head (whole_of told side front)
whole_head None side front is = refl
whole_head (Some t) side front is = ap head is ∙ front_head (disk side t.trace).reads

pub whole_short : (told : Option Told) (side : Side) (front : List ℕ) → IfSome told (λ t. front ≡ take 18 (disk side t.trace).reads) → nat_lt (length front) 18 ≡ nat_lt (length (whole_of told side front)) 18
whole_short None side front is = refl
whole_short (Some t) side front is = ap (λ (l : List ℕ). nat_lt (length l) 18) is ∙ front_short (disk side t.trace).reads

pub whole_reads : (told : Option Told) (side : Side) (front : List ℕ) → IfSome told (λ t. whole_of told side front ≡ (disk side t.trace).reads)
whole_reads None side front = tt
whole_reads (Some t) side front = refl

pub both_read : (told : Option Told) (a b : List ℕ) → IfSome told (λ t. a ≡ (disk A t.trace).reads) → IfSome told (λ t. b ≡ (disk B t.trace).reads)
    → IfSome told (λ t. (a ≡ (disk A t.trace).reads) × (b ≡ (disk B t.trace).reads))
both_read None a b ra rb = tt
both_read (Some t) a b ra rb = (ra, rb)

pub first_read : (told : Option Told) (a b : List ℕ) → IfSome told (λ t. (a ≡ (disk A t.trace).reads) × (b ≡ (disk B t.trace).reads)) → IfSome told (λ t. a ≡ (disk A t.trace).reads)
first_read None a b r = tt
first_read (Some t) a b r = r.0

pub second_read : (told : Option Told) (a b : List ℕ) → IfSome told (λ t. (a ≡ (disk A t.trace).reads) × (b ≡ (disk B t.trace).reads)) → IfSome told (λ t. b ≡ (disk B t.trace).reads)
second_read None a b r = tt
second_read (Some t) a b r = r.1

-- a fact on what is told held of the same told before
pub before : (P : Told → Type 0) (old new : Option Told) → new ≡ old → IfSome new P → IfSome old P
before P old new same h = subst (λ (o : Option Told). IfSome o P) same h

-- the bytes of the one side that is live
pub on_one : (live_side : LiveSide) (live : Side) (bytes a b : List ℕ) → live_side ≡ places.On live → bytes ≡ of_side live a b → (side : Side) → live_side ≡ places.On side → bytes ≡ of_side side a b
on_one live_side live bytes a b on is side here = is ∙ ap (λ s. of_side s a b) (one live side (sym on ∙ here))
  where
    one : (x y : Side) → places.On x ≡ places.On y → x ≡ y
    one x y e = cc e

-- THE SIDES, by the bytes of both: the front of each has its head
pub seen_by : (told : Option Told) (sides : Sides) (a b fa fb : List ℕ) → IfSome told (λ t. (a ≡ (disk A t.trace).reads) × (b ≡ (disk B t.trace).reads)) → head fa ≡ head a → head fb ≡ head b
    → nat_lt (length fa) 18 ≡ nat_lt (length a) 18 → sides.live_side ≡ seen_live (live (head fa) (head fb)) → sides.is_short ≡ nat_lt (length fa) 18 → ((side : Side) → sides.live_side ≡ places.On side → sides.live.items ≡ of_side side a b) → AreSeen told sides
seen_by told sides a b fa fb reads on_a on_b short live_side is_short whole = record {
  a = a;
  b = b;
  reads = reads;
  live_side = (λ i. seen_live (live (sym on_a i) (sym on_b i))) ∙ sym live_side;
  is_short = is_short ∙ short;
  whole = whole;
}

-- what is read whole has the head of its front
pub read_head : (bytes front : List ℕ) → take 18 bytes ≡ front → head front ≡ head bytes
read_head bytes front is = ap head (sym is) ∙ front_head bytes

pub read_short : (bytes front : List ℕ) → take 18 bytes ≡ front → nat_lt (length front) 18 ≡ nat_lt (length bytes) 18
read_short bytes front is = ap (λ (l : List ℕ). nat_lt (length l) 18) (sym is) ∙ front_short bytes

-- THE SIDES AS AN OPENING READS THEM, by the front of each

module _ (told : Option Told) (sides : Sides) (fa fb : List ℕ) (on_a : IfSome told (λ t. fa ≡ take 18 (disk A t.trace).reads)) (on_b : IfSome told (λ t. fb ≡ take 18 (disk B t.trace).reads)) (live_side : sides.live_side ≡ seen_live (live (head fa) (head fb))) (short : sides.is_short ≡ nat_lt (length fa) 18) where
  -- where none is live
  pub none_seen : ((side : Side) → sides.live_side ≢ places.On side) → AreSeen told sides
  none_seen none =
      let a = whole_of told A fa in
      let b = whole_of told B fb in
      seen_by told sides a b fa fb (both_read told a b (whole_reads told A fa) (whole_reads told B fb)) (whole_head told A fa on_a) (whole_head told B fb on_b) (whole_short told A fa on_a) live_side short (λ side here. absurd (none side here))

  -- where one is live, which is read whole
  pub live_seen : (side : Side) (bytes : List ℕ) → IfSome told (λ t. bytes ≡ (disk side t.trace).reads) → take 18 bytes ≡ of_side side fa fb → sides.live_side ≡ places.On side → sides.live.items ≡ bytes → AreSeen told sides
  live_seen A bytes reads front on is =
      let b = whole_of told B fb in
      seen_by told sides bytes b fa fb (both_read told bytes b reads (whole_reads told B fb)) (read_head bytes fa front) (whole_head told B fb on_b) (read_short bytes fa front) live_side short (on_one sides.live_side A sides.live.items bytes b on is)
  live_seen B bytes reads front on is =
      let a = whole_of told A fa in
      seen_by told sides a bytes fa fb (both_read told a bytes (whole_reads told A fa) reads) (whole_head told A fa on_a) (read_head bytes fb front) (whole_short told A fa on_a) live_side short (on_one sides.live_side B sides.live.items a bytes on is)

-- what holds of each side's own
pub on_either : {X : Type 0} (P : Side → X → Type 0) (side : Side) (a b : X) → P A a → P B b → P side (of_side side a b)
on_either P A a b pa pb = pa
on_either P B a b pa pb = pb

pub either_of : {X Y : Type 0} (f : X → Y) (side : Side) (a b : X) → f (of_side side a b) ≡ of_side side (f a) (f b)
either_of f A a b = refl
either_of f B a b = refl

-- so many bytes more after those that were read
pub read_on : (old now : Option Told) (side : Side) (bytes more : List ℕ) (done size all : ℕ) → now ≡ old → all ≡ done + size → IfSome old (λ t. bytes ≡ take done (disk side t.trace).reads)
    → IfSome now (λ t. more ≡ bytes ++ take size (drop done (disk side t.trace).reads)) → IfSome old (λ t. more ≡ take all (disk side t.trace).reads)
read_on None now side bytes more done size all same long was read = tt
read_on (Some t) now side bytes more done size all same long was read =
    let reads = (disk side t.trace).reads in
    let here : more ≡ bytes ++ take size (drop done reads) = subst (λ (o : Option Told). IfSome o (λ u. more ≡ bytes ++ take size (drop done (disk side u.trace).reads))) same read in
    here ∙ ap (λ l. l ++ take size (drop done reads)) was ∙ sym (take-add done size reads) ∙ ap (λ n. take n reads) (sym long)

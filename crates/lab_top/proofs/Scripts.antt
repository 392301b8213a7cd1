-- A script is one: its commands, and how it ends.
use Rattle.std.proofs.Common.{◌≡◌, ℕ, List, [], ◌∷◌, refl, sym, ◌∙◌, ap, subst}
use Rattle.script_text.specs.declared.command.Command.{Command}
use Rattle.script_text.specs.Commands.{AreCommands, AtEnd, BadLine, Ending, Got, IsScript, Lines, ending}
use Rattle.lab_io.specs.Lines.{script_lines}

one_end : (x y : Ending) → ending x ≡ ending y → x ≡ y
one_end AtEnd AtEnd same = refl
one_end AtEnd (BadLine line) same = absurd (cc same)
one_end (BadLine line) AtEnd same = absurd (cc same)
one_end (BadLine line) (BadLine other) same = let one : line ≡ other = cc same in ap BadLine one

no_command : {X : Type 0} (x : Ending) (command : Command) (number : ℕ) (rest : Lines) → ending x ≡ Got command number rest → X
no_command AtEnd command number rest same = absurd (cc same)
no_command (BadLine line) command number rest same = absurd (cc same)

commands_once : (number : ℕ) (lines : Lines) (a b : List Command) (x y : Ending) → AreCommands number lines a x → AreCommands number lines b y → (a ≡ b) × (x ≡ y)
commands_once number lines [] [] x y p q = (refl, one_end x y (sym p ∙ q))
commands_once number lines [] (d ∷ b) x y p q = no_command x d q.0 q.1 (sym p ∙ q.2)
commands_once number lines (c ∷ a) [] x y p q = no_command y c p.0 p.1 (sym q ∙ p.2)
commands_once number lines (c ∷ a) (d ∷ b) x y p q =
    let both : Got c p.0 p.1 ≡ Got d q.0 q.1 = sym p.2 ∙ q.2 in
    let command : c ≡ d = cc both in
    let after : p.0 ≡ q.0 = cc both in
    let rest : p.1 ≡ q.1 = cc both in
    let more = commands_once q.0 q.1 a b x y (subst (λ l. AreCommands q.0 l a x) rest (subst (λ n. AreCommands n p.1 a x) after p.3)) q.3 in
    ((λ i. command i ∷ more.0 i), more.1)

pub script_once : (bytes : List ℕ) (a b : List Command) (x y : Ending) → IsScript bytes a x → IsScript bytes b y → (a ≡ b) × (x ≡ y)
script_once bytes a b x y p q = commands_once 0 (script_lines bytes) a b x y p q

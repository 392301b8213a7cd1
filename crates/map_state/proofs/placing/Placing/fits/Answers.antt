use Rattle.std.proofs.Common.{◌≡◌, ◌∙◌, ◌-◌, ◌+◌, ◌++◌, ◌∷◌, [], ℕ, List, length, map, take, get_or, ap, sym, arith, length-append}
use Rattle.std.specs.Prelude.{is_some, vec_len}
use Rattle.std.proofs.Math.Seq.{take-append_seam}
use Rattle.std.proofs.lemmas.List.{map-append}
use Rattle.lab_model.specs.Shapes.{Place}
use Rattle.node_maps.specs.NodeMaps.{plugs_of}
use Rattle.node_maps.proofs.MapLaws.{candidates_count}
use Rattle.map_state.specs.Hosted.{hosted_at}
use Rattle.map_state.proofs.Alikes.{candidate_place}
use Rattle.map_state.proofs.StateLaws.{counted_at}
use Rattle.map_state.proofs.placing.Placing.fits.Goals as goal

-- a list without the last one
front : {X : Type 0} (xs : List X) (x : X) (n : ℕ) → n ≡ length xs + 1 → take (n - 1) (xs ++ x ∷ []) ≡ xs
front xs x n is = (let all : n - 1 ≡ length xs = omega (arith, is) in ap (λ (k : ℕ). take k (xs ++ x ∷ [])) all) ∙ take-append_seam xs (x ∷ [])

pub keeps-requires-clause-trying : goal.keeps-requires-clause-trying
keeps-requires-clause-trying c =
    let x = c.args.search.now.mapper in
    let places = c.args.self.now.places.items in
    let p = c.args.place.now in
    let was = c.requires.placing in
    let more = c.requires.more in
    let at = candidate_place x.lab.now x.free.now x.wiring.now (length places) p (let all = candidates_count x.lab.now x.free.now x.wiring.now in omega (arith, more, all)) c.requires.among in
    let grown : ◌≡◌ {A = List Place} c.push.new.self.items (places ++ p ∷ []) = c.in_ok-push.ensures.items in
    let nodes : List Place → List ℕ = λ ps. map (λ (q : Place). q.0.0) ps in
    record {
      earlier = places;
      places = grown;
      more = more;
      node = at.0;
      typed = counted_at x.lab.now p.0.0 p.1 c.range-kept.ensures.lab at.0 at.1;
      hosts = c.in_ok-push-2.ensures.items ∙ ap (λ (l : List ℕ). l ++ p.0.0 ∷ []) was.hosts ∙ sym (map-append (λ (q : Place). q.0.0) places (p ∷ [])) ∙ ap nodes (sym grown);
      one_each = was.one_each;
      hosted = was.hosted;
      served = was.served;
      idle = was.idle;
    }

pub returns-clause-placing : goal.returns-clause-placing
returns-clause-placing c =
    let x = c.args.search.now.mapper in
    let places = c.args.self.now.places.items in
    let hosts = c.args.self.now.hosts.items in
    let p = c.args.place.now in
    let was = c.requires.placing in
    let kept = c.in_ok-yes.ensures in
    let grown : ◌≡◌ {A = List Place} c.keeps.new.self.places.items (places ++ p ∷ []) = ap (λ v. v.items) kept.places ∙ c.in_ok-push.ensures.items in
    let host_more : ◌≡◌ {A = List ℕ} c.keeps.new.self.hosts.items (hosts ++ p.0.0 ∷ []) = ap (λ v. v.items) kept.hosts ∙ c.in_ok-push-2.ensures.items in
    let one : vec_len c.keeps.new.self.places ≡ length places + 1 =
    (let all = ap length grown in let both = length-append places (p ∷ []) in let count = c.keeps.new.self.places.ok.0 in omega (arith, all, both, count)) in
    let other : vec_len c.keeps.new.self.hosts ≡ length hosts + 1 =
    (let all = ap length host_more in let both = length-append hosts (p.0.0 ∷ []) in let count = c.keeps.new.self.hosts.ok.0 in omega (arith, all, both, count)) in
    let places_back : ◌≡◌ {A = List Place} c.pop.new.self.items places =
    c.pop.ensures.rest ∙ ap (λ (l : List Place). take (vec_len c.keeps.new.self.places - 1) l) grown ∙ front places p (vec_len c.keeps.new.self.places) one in
    let homes_back : ◌≡◌ {A = List ℕ} c.pop-2.new.self.items hosts =
    c.pop-2.ensures.rest ∙ ap (λ (l : List ℕ). take (vec_len c.keeps.new.self.hosts - 1) l) host_more ∙ front hosts p.0.0 (vec_len c.keeps.new.self.hosts) other in
    let hosted : ◌≡◌ {A = List ℕ} c.keeps.new.self.hosted.items c.args.self.now.hosted.items = ap (λ v. v.items) kept.hosted in
    record {
      within = (let all = ap length places_back in let more = c.requires.more in omega (arith, all, more));
      hosts = homes_back ∙ was.hosts ∙ ap (λ (ps : List Place). map (λ (q : Place). q.0.0) ps) (sym places_back);
      one_each = ap length hosted ∙ was.one_each;
      hosted = λ n lt. ap (λ (l : List ℕ). get_or l n 0) hosted ∙ was.hosted n lt ∙ ap (λ (ps : List Place). hosted_at ps n) (sym places_back);
      served = ap (λ (ps : List Place). is_some (plugs_of x.lab.now x.wiring.now ps)) places_back ∙ was.served;
      idle = kept.idle;
    }

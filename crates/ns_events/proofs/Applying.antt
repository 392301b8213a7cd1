-- The wiring that an event leaves.
use Rattle.std.proofs.Common.{◌≡◌, ℕ, true, List, length, map, refl, ap, sym, ◌∙◌}
use Rattle.std.specs.List.{list_all}
use Rattle.lab_base.specs.Names.{same_name}
use Rattle.virt_topo.specs.declared.wiring.Pipe.{Pipe}
use Rattle.virt_topo.specs.declared.wiring.Wiring.{Wiring}
use Rattle.virt_topo.specs.Ends.{end_nodes, end_number}
use Rattle.virt_topo.specs.Soundness.{IsSound, limits_pipe, owner_at}
use Rattle.ns_events.specs.declared.event.Event.{Event}
use Rattle.ns_events.specs.Pipes.{is_of, own_pipes, ends_of, rates_of}
use Rattle.ns_events.specs.Changes.{IsApplied, KeepsLimits}
use Rattle.ns_events.specs.Renewed.{renewed, renewed_pipe}
use Rattle.ns_events.proofs.Renewing.{same_ends, keeps_ends, keeps_others, own_paired, gives_wanted}
use Rattle.ns_events.proofs.Sounding.{sound_pipes, some_pass, one_keeps, all_keep, sound_again}

-- a pipe of the same ends is of the same link
pub same_owner : (w : Wiring) (link : List ℕ) (p q : Pipe) → ends_of p ≡ ends_of q → is_of w link p ≡ is_of w link q
same_owner w link p q e = ap (λ (x : ℕ × ℕ × ℕ). same_name (owner_at w (end_number (end_nodes w.segments) x.0 x.1)) link) e

pub leaves : (e : Event) (text now : Wiring) → length (own_pipes now e.link) ≡ length (own_pipes text e.link)
    → IsApplied e text now (record now { pipes = renewed (is_of now e.link) (renewed_pipe e.what (length (own_pipes text e.link))) now.pipes (own_pipes text e.link) })
leaves e text now same =
    let ts = own_pipes text e.link in
    let own = is_of now e.link in
    let f = renewed_pipe e.what (length ts) in
    let kept = λ (p t : Pipe). same_owner now e.link (f p t) p (same_ends e.what (length ts) p t) in
    record {
      rest = refl;
      ends = keeps_ends own f (same_ends e.what (length ts)) now.pipes ts;
      others = keeps_others own f kept now.pipes ts;
      own = ap (map rates_of) (own_paired own f kept now.pipes ts) ∙ gives_wanted own e.what (own_pipes now e.link) ts same;
    }

pub applied : (e : Event) (text now copy : Wiring) (old own made : List Pipe) → old ≡ own_pipes text e.link → own ≡ own_pipes now e.link → length own ≡ length old → copy ≡ now
    → made ≡ renewed (is_of now e.link) (renewed_pipe e.what (length old)) now.pipes old → IsApplied e text now (record copy { pipes = made })
applied e text now copy old own made is_old is_own same copied is_made =
    let leave : length (own_pipes now e.link) ≡ length (own_pipes text e.link) = ap length (sym is_own) ∙ same ∙ ap length is_old in
    rw (is_made, is_old, copied) (leaves e text now leave)

pub stays_sound : (e : Event) (text now copy : Wiring) (old made : List Pipe) → KeepsLimits e.what → IsSound text → IsSound now → old ≡ own_pipes text e.link → copy ≡ now
    → made ≡ renewed (is_of now e.link) (renewed_pipe e.what (length old)) now.pipes old → IsSound (record copy { pipes = made })
stays_sound e text now copy old made keeps sound_text sound_now is_old copied is_made =
    let own = is_of now e.link in
    let f = renewed_pipe e.what (length old) in
    let ts : list_all limits_pipe old ≡ true = ap (list_all limits_pipe) is_old ∙ some_pass limits_pipe (is_of text e.link) text.pipes (sound_pipes text sound_text) in
    let all = all_keep own f (λ p t a b. one_keeps e.what (length old) p t keeps a b) now.pipes old (sound_pipes now sound_now) ts in
    rw (is_made, copied) (sound_again now (renewed own f now.pipes old) (keeps_ends own f (same_ends e.what (length old)) now.pipes old) all sound_now)

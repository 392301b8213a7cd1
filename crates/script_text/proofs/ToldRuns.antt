-- One reply more of a batch.
use Rattle.std.proofs.Common.{◌≡◌, Bool, ◌||◌, List, [], ◌∷◌, ◌++◌, sym, ap, ◌∙◌}
use Rattle.std.specs.List.{flat_map, list_any}
use Rattle.std.proofs.lemmas.List.{append-nil}
use Rattle.std.proofs.lemmas.List.Concat.{flat_map-append}
use Rattle.std.proofs.lemmas.List.Folds.{list_any-append}
use Rattle.std.proofs.Math.Bool.{or-false}
use Rattle.script_text.specs.Replies.{blames_device, closes, served_of, tells_failed, text_of}
use Rattle.script_text.specs.declared.reply.Reply.{Reply}
use Rattle.script_text.specs.declared.reply.Served.{Served}

pub any_more : (test : Reply → Bool) (told : List Reply) (reply : Reply) → list_any test (told ++ reply ∷ []) ≡ (list_any test told || test reply)
any_more test told reply = list_any-append test told (reply ∷ []) ∙ ap (λ b. list_any test told || b) (or-false (test reply))

pub served_more : (told : List Reply) (reply : Reply) (served : Served) → served.lines ≡ flat_map text_of told ++ text_of reply → served.closes ≡ (list_any closes told || closes reply) → served.blames ≡ (list_any blames_device told || blames_device reply)
    → served.fails ≡ (list_any tells_failed told || tells_failed reply) → served ≡ served_of (told ++ reply ∷ [])
served_more told reply served lines closing blaming failing = λ i. record {
  lines = (lines ∙ ap (λ l. flat_map text_of told ++ l) (sym (append-nil (text_of reply))) ∙ sym (flat_map-append text_of told (reply ∷ []))) i;
  closes = (closing ∙ sym (any_more closes told reply)) i;
  blames = (blaming ∙ sym (any_more blames_device told reply)) i;
  fails = (failing ∙ sym (any_more tells_failed told reply)) i;
}

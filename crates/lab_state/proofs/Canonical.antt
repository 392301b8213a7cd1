-- Each canonical text is of one lab, of one wiring, or of one mapping for a lab and a wiring.
use Rattle.std.proofs.Common.{◌≡◌, Ok, sym, ap, ◌∙◌}
use Rattle.records_model.specs.Labs.{AreCanonical}
use Rattle.ptop_text.specs.Adding.{lab_of_text}
use Rattle.ptop_text.proofs.LabAgain.{canonical_again}
use Rattle.lab_state.specs.Texts.{the_texts}
use Rattle.lab_state.proofs.SwapLaws.{one_top, one_solution}

pub texts_once : AreCanonical the_texts
texts_once = record {
  ptops = λ l m a b same.
      let both : Ok l ≡ Ok m = sym (canonical_again l a) ∙ ap lab_of_text same ∙ canonical_again m b in cc both;
  tops = λ w v a b same. one_top w v a b same;
  solutions = λ lab w m n is text a b same. one_solution lab w m n is text a b same;
}

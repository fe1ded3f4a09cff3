use Rattle.std.proofs.Common.{◌≡◌, List, length, slice_get, Some, ap, sym, ◌∙◌, arith}
use Rattle.std.proofs.lemmas.List.{length-replicate}
use Rattle.rv32_hart.specs.Hart.{Hart}
use Rattle.rv32_hart.specs.Ram.{Ram}
use Rattle.log_audit.proofs.Wholes.{in_place}
use Rattle.log_audit.proofs.harts.Harts.begin.Goals as goal

pub invariant_of-result-2 : goal.invariant_of-result-2
invariant_of-result-2 c =
    let whole = c.pages.ensures.whole in
    let start = c.args.start in
    let contents = ap (λ (r : Ram). length r.contents) c.pages-2.view_is in
    record {
      few = whole.harts;
      harts = ap length c.in_ok-harts.ensures;
      pages = contents ∙ ap length c.in_ok-pages.ensures;
      marks = ap length c.in_ok-marks.ensures ∙ length-replicate c.pages.result _ ∙ c.pages.ensures.value ∙ sym (contents ∙ ap length c.in_ok-pages.ensures);
      places = λ hart h there.
          let found : slice_get start.harts hart ≡ Some h = ap (λ (hs : List Hart). slice_get hs hart) (sym c.in_ok-harts.ensures) ∙ there in
          let p = in_place (length start.harts) 0 hart start.harts h whole.places found in (p.0 ∙ omega arith, p.1);
    }

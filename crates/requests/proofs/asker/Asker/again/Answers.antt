use Rattle.std.proofs.Common.{◌≡◌, ℕ, List, [], ◌∷◌, ◌++◌, None, Some, ◌<◌, length, get_or, take, slice_index, sym, ap, ◌∙◌, arith}
use Rattle.std.specs.Prelude.{is_some}
use Rattle.wire.specs.declared.requests.Request.{Request}
use Rattle.wire.specs.declared.requests.Request.TheVariants.{From, Word}
use Rattle.requests.specs.Asking.{AskerView, open_words, asked_again, request_of}
use Rattle.requests.proofs.Opens.{open_none, open_one, open_kept, open_end, same_at}
use Rattle.requests.proofs.asker.Asker.again.Goals as goal
use Rattle.requests.proofs.asker.Asker.again.Goals.{then-is_none+in_ok-push-2, else-is_none}

pub loop-number-init : goal.loop-number-init
loop-number-init c =
    let a = c.self.inside in
    let from : Request = From a.hart a.first in
    record {
      within = omega arith;
      asked = c.in_ok-push.ensures.items ∙ ap (λ (rs : List Request). rs ++ from ∷ []) c.new-requests.ensures.items
          ∙ ap (λ (rs : List Request). from ∷ rs) (sym (open_none a.hart 0 a.first a.words.items a.answers.items (omega (arith, c.self.invariant.2))));
    }

pub loop-number-preserved : goal.loop-number-preserved
loop-number-preserved c =
    let a = c.self.inside in
    let n = c.loop-number.number in
    let from : Request = From a.hart a.first in
    let within : n < length a.answers.items = omega (arith, c.self.invariant.1, c.self.invariant.0) in
    let at : get_or a.answers.items n None ≡ c.index.result.now = same_at a.answers.items n c.index.result.now within c.index.ensures in
    record {
      within = omega arith;
      asked = elim c.if-is_none.branch [
        | then-is_none+in_ok-push-2 w ↦
            let asked : w.request.result ≡ request_of c.args.self.now n = w.request.ensures in
            let word : request_of c.args.self.now n ≡ Word a.hart (slice_index a.words.items n) (Some n) =
            ap (λ (v : AskerView). request_of v n) (sym c.self.view_is) in
            ap (λ v. v.items) w.requests-is ∙ w.in_ok-push-2.ensures.items
            ∙ ap (λ (rs : List Request). rs ++ w.request.result ∷ []) c.loop-number.invariant.asked
            ∙ ap (λ (r : Request). from ∷ (open_words a.hart 0 (take n a.words.items) a.answers.items ++ r ∷ [])) (asked ∙ word)
            ∙ ap (λ (rs : List Request). from ∷ rs) (sym (open_one a.hart n a.words.items a.answers.items (omega (arith, c.self.invariant.1))
            within (ap is_some at ∙ w.if-is_none.ensures)))
        | else-is_none w ↦
            ap (λ v. v.items) w.requests-is ∙ c.loop-number.invariant.asked
            ∙ ap (λ (rs : List Request). from ∷ rs) (sym (open_kept a.hart n a.words.items a.answers.items (ap is_some at ∙ w.if-is_none.ensures)))
      ];
    }

pub returns : goal.returns
returns c =
    let a = c.self.inside in
    let n = c.loop-number.number in
    let v : AskerView = record { hart = a.hart; words = a.words.items; answers = a.answers.items; sent = a.sent; window = a.window } in
    c.loop-number.invariant.asked
    ∙ ap (λ (rs : List Request). From a.hart a.first ∷ rs) (open_end a.hart a.first a.sent n a.words.items a.answers.items c.self.invariant.2
    (omega arith) c.loop-number.invariant.within)
    ∙ ap (λ (k : ℕ). From a.hart k ∷ open_words a.hart 0 (take a.sent a.words.items) a.answers.items) c.self.invariant.2
    ∙ ap asked_again c.self.view_is

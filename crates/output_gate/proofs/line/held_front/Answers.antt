use Rattle.std.proofs.Common.{◌≡◌, ◌<◌, ◌≤◌, ℕ, true, false, List, length, take, get_or, ◌∙◌, sym, subst, arith}
use Rattle.std.proofs.Math.Seq.{take-length}
use Rattle.std.proofs.lemmas.Bool.{lt-leb, le-leb}
use Rattle.std.proofs.lemmas.List.{get_or_default, take_all}
use Rattle.std.specs.List.{AllByRecursion}
use Rattle.ft_types.specs.declared.output.Output.{Output}
use Rattle.output_gate.specs.Gates.{holder_count, is_held}
use Rattle.output_gate.proofs.Alls.{all_more}
use Rattle.output_gate.proofs.Fronts.{is_front}
use Rattle.output_gate.proofs.line.held_front.Goals as goal

stops : (need : ℕ) (noted : List (List ℕ)) (xs : List Output) (n : ℕ) (o : Output) (count : ℕ) → o ≡ get_or xs n o → count ≡ holder_count noted o.hart o.step →
    count < need → n < length xs → (d : Output) → is_held need noted (get_or xs n d) ≡ false
stops need noted xs n o count at is few room d = subst (λ (x : Output). is_held need noted x ≡ false) (at ∙ get_or_default xs n o d room)
    (lt-leb need (holder_count noted o.hart o.step) (omega arith))

goes_on : (need : ℕ) (noted : List (List ℕ)) (xs : List Output) (n : ℕ) (o : Output) (count : ℕ) → o ≡ get_or xs n o →
    count ≡ holder_count noted o.hart o.step → need ≤ count → n < length xs → (d : Output) → is_held need noted (get_or xs n d) ≡ true
goes_on need noted xs n o count at is enough room d = subst (λ (x : Output). is_held need noted x ≡ true) (at ∙ get_or_default xs n o d room)
    (le-leb need (holder_count noted o.hart o.step) (omega arith))

pub returns-then-keepers_above-need : goal.returns-then-keepers_above-need
returns-then-keepers_above-need c = is_front c.args.need c.args.noted.now c.loop-place.place c.args.waiting.now (let test = c.loop-place-test.true in
    omega arith) c.requires c.loop-place.invariant
    (stops c.args.need c.args.noted.now c.args.waiting.now c.loop-place.place c.index-waiting-place.result c.keepers_above.result c.index-waiting-place.is
    c.keepers_above.ensures.value c.if-keepers_above-need.true)

pub loop-place-preserved : goal.loop-place-preserved
loop-place-preserved c = all_more (λ o. is_held c.args.need c.args.noted.now o ≡ true) c.loop-place.place c.args.waiting.now c.loop-place.invariant
    (goes_on c.args.need c.args.noted.now c.args.waiting.now c.loop-place.place c.index-waiting-place.result c.keepers_above.result c.index-waiting-place.is
    c.keepers_above.ensures.value c.if-keepers_above-need.false)

whole : (need : ℕ) (noted : List (List ℕ)) (xs : List Output) (n : ℕ) → length xs ≤ n → AllByRecursion (λ o. is_held need noted o ≡ true) (take n xs) →
    AllByRecursion (λ o. is_held need noted o ≡ true) (take (length xs) xs)
whole need noted xs n all h = subst (λ (l : List Output). AllByRecursion (λ o. is_held need noted o ≡ true) l) (take_all n xs all ∙ sym (take-length xs)) h

pub returns : goal.returns
returns c = is_front c.args.need c.args.noted.now (length c.args.waiting.now) c.args.waiting.now (omega arith) c.requires
    (whole c.args.need c.args.noted.now c.args.waiting.now c.loop-place.place (let done = c.loop-place-test.false in omega arith) c.loop-place.invariant)
    (λ lt. absurd (omega arith))

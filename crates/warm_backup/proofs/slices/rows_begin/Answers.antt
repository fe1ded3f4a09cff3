use Rattle.std.proofs.lemmas.Bool.{cases_lt}
use Rattle.std.proofs.Common.{◌≡◌, ◌≤◌, ◌<◌, ◌+◌, inl, inr, refl, ℕ, nat_lt, sym, ap, subst, ◌∙◌, arith}
use Rattle.std.specs.List.{filter}
use Rattle.ft_types.specs.Counts.{count_at}
use Rattle.edge_log.specs.EdgeLog.{row_of}
use Rattle.input_log.specs.Inputs.{inputs_of, HearsMore}
use Rattle.hart_replay.specs.declared.plans.PlannedLeg.{PlannedLeg}
use Rattle.warm_backup.proofs.slices.rows_begin.Goals as goal
use Rattle.warm_backup.proofs.slices.rows_begin.Goals.{then-count_of-end-via-then-count_of-end, then-count_of-end-via-else-count_of-end+then-not-same_edges_before}
use Rattle.warm_backup.proofs.slices.rows_begin.Goals.{then-count_of-end-via-else-count_of-end+else-not-same_edges_before+then-not-same_inputs_before}

abbrev same_edges : PlannedLeg → PlannedLeg → ℕ → ℕ → Type 0
same_edges leg later hart end = filter (λ e. nat_lt e.at end) (row_of leg.edges hart) ≡ filter (λ e. nat_lt e.at end) (row_of later.edges hart)

abbrev hears_on : PlannedLeg → PlannedLeg → ℕ → ℕ → Type 0
hears_on leg later hart end = HearsMore (filter (λ x. nat_lt x.0 end) (inputs_of leg.inputs hart)) end (inputs_of later.inputs hart)

-- at the hart and the end as they were read
as_read : (P : ℕ → ℕ → Type 0) (hart end h e : ℕ) → h ≡ hart → e ≡ end → P hart end → P h e
as_read P hart end h e one other is = subst (λ (n : ℕ). P n e) (sym one) (subst (λ (n : ℕ). P hart n) (sym other) is)

-- and as they are named
there : (P : ℕ → ℕ → Type 0) (h e hart end : ℕ) → h ≡ hart → e ≡ end → P h e → P hart end
there P h e hart end one other is = subst (λ (n : ℕ). P n end) one (subst (λ (n : ℕ). P h n) other is)

-- of one more hart
one_more : (P : ℕ → Type 0) (number : ℕ) → ((hart : ℕ) → hart < number → P hart) → P number → (hart : ℕ) → hart < number + 1 → P hart
one_more P number before here hart less =
    elim (cases_lt hart number) [
      | inl earlier ↦ before hart earlier
      | inr last ↦ (let same : number ≡ hart = omega (arith, less, last) in subst P same here)
    ]

pub returns-then-count_of-end : goal.returns-then-count_of-end
returns-then-count_of-end c = (
  λ e. absurd (cc e),
  λ b.
      let hart = c.loop-number.number in
      let leg = c.args.leg.now in
      let later = c.args.later.now in
      let here : c.new-hart.result ≡ hart = c.new-hart.ensures in
      let at : c.count_of-end.result ≡ count_at c.args.ends.now hart = c.count_of-end.ensures.value ∙ ap (count_at c.args.ends.now) here in
      let theirs : c.count_of.result ≡ count_at later.ends hart = c.count_of.ensures.value ∙ ap (count_at later.ends) here in
      let less = c.loop-number-test.true in
      elim c.then-count_of-end.branch [
        | then-count_of-end-via-then-count_of-end w ↦
            let no = w.if-count_of-end.true in
            let le = b.no_earlier hart less in
            absurd (omega (arith, no, le, at, theirs))
        | then-count_of-end-via-else-count_of-end+then-not-same_edges_before w ↦
            let yes = w.same_edges_before.ensures.1 (as_read (same_edges leg later) hart (count_at c.args.ends.now hart) c.new-hart.result c.count_of-end.result
            here at (b.edges hart less)) in
            let no = w.if-not-same_edges_before.true in
            absurd (cc (yes, no))
        | then-count_of-end-via-else-count_of-end+else-not-same_edges_before+then-not-same_inputs_before w ↦
            let yes = w.same_inputs_before.ensures.1 (as_read (hears_on leg later) hart (count_at c.args.ends.now hart) c.new-hart.result
            c.count_of-end.result here at (b.inputs hart less)) in
            let no = w.if-not-same_inputs_before.true in
            absurd (cc (yes, no))
      ],
)

pub loop-number-preserved : goal.loop-number-preserved
loop-number-preserved c =
    let number = c.loop-number.number in
    let leg = c.args.leg.now in
    let later = c.args.later.now in
    let so_far = c.loop-number.invariant in
    let here : c.new-hart.result ≡ number = c.new-hart.ensures in
    let at : c.count_of-end.result ≡ count_at c.args.ends.now number = c.count_of-end.ensures.value ∙ ap (count_at c.args.ends.now) here in
    let theirs : c.count_of.result ≡ count_at later.ends number = c.count_of.ensures.value ∙ ap (count_at later.ends) here in
    let no_more = c.if-count_of-end.false in
    let same = there (same_edges leg later) c.new-hart.result c.count_of-end.result number (count_at c.args.ends.now number) here at
    (c.same_edges_before.ensures.0 c.if-not-same_edges_before.false) in
    let hears = there (hears_on leg later) c.new-hart.result c.count_of-end.result number (count_at c.args.ends.now number) here at
    (c.same_inputs_before.ensures.0 c.if-not-same_inputs_before.false) in
    record {
      no_earlier =
          one_more (λ hart. count_at c.args.ends.now hart ≤ count_at later.ends hart) number so_far.no_earlier (omega (arith, no_more, at, theirs));
      edges = one_more (λ hart. same_edges leg later hart (count_at c.args.ends.now hart)) number so_far.edges same;
      inputs = one_more (λ hart. hears_on leg later hart (count_at c.args.ends.now hart)) number so_far.inputs hears;
    }

pub returns : goal.returns
returns c =
    let over = c.loop-number-test.false in
    let so_far = c.loop-number.invariant in (
      λ yes.
          record {
            no_earlier = λ hart less. so_far.no_earlier hart (omega (arith, over, less));
            edges = λ hart less. so_far.edges hart (omega (arith, over, less));
            inputs = λ hart less. so_far.inputs hart (omega (arith, over, less));
          },
      λ begins. refl,
    )

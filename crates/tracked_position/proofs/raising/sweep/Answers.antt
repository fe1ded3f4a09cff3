use Rattle.std.proofs.Common.{◌≡◌, ◌<◌, ◌≤◌, ℕ, Option, Some, None, is_some, le_trans, inl, inr, false, true≢false, refl, length, sym, ap, ◌∙◌, arith, length-set, get_or-set_same, get_or-set_other}
use Rattle.std.proofs.lemmas.Bool.{cases_lt, cases_eq}
use Rattle.std.specs.Option.{option_map}
use Rattle.ft_types.specs.Counts.{count_at}
use Rattle.ft_types.specs.declared.names.TheConstants.{HART_LIMIT, HART_ROW}
use Rattle.closed_cut.specs.Position.{base_of}
use Rattle.closed_cut.proofs.Reach.{base_many}
use Rattle.tracked_position.specs.machinery.Waits.{room}
use Rattle.tracked_position.proofs.Bounds.{none_waiting, set_over, room_le}
use Rattle.tracked_position.proofs.raising.sweep.Goals as goal
use Rattle.tracked_position.proofs.raising.sweep.Goals.{Joined-waiting, then-rose, else-rose, then-waiting, else-waiting, then-rose-2, else-rose-2}

none_rose : (c : Joined-waiting) → c.if-rose.rose ≡ false → (c.loop-number.rose ≡ false) × (c.raise_hart-raised.result.rose ≡ false)
none_rose c is = elim c.if-rose.branch [ then-rose w ↦ cc | else-rose w ↦ (w.if-rose.false, sym w.rose-is ∙ is) ]

none_of : (waits : Option ℕ) → is_some waits ≡ false → waits ≡ None
none_of None is = refl
none_of (Some other) is = absurd (true≢false is)

none_waits : (c : Joined-waiting) → c.if-waiting.waiting ≡ false → (c.loop-number.waiting ≡ false) × (c.raise_hart-raised.result.waits ≡ None)
none_waits c is = elim c.if-waiting.branch [
  | then-waiting w ↦ absurd (true≢false (sym w.if-waiting.true ∙ (sym w.waiting-is ∙ is)))
  | else-waiting w ↦ (w.if-waiting.false, none_of c.raise_hart-raised.result.waits (sym w.is_some-waiting.ensures ∙ (sym w.waiting-is ∙ is)))
]

pub loop-number-preserved : goal.loop-number-preserved
loop-number-preserved c =
    let s = c.args.store.now in
    let term = c.args.opening.now.term in
    let base = base_of c.args.opening.now in
    let here : c.index.result ≡ c.loop-number.number = c.index.ensures.value ∙ c.new-hart.ensures in
    let there : c.index-in-loop-number.result ≡ c.loop-number.number = c.index-in-loop-number.ensures.value ∙ c.new-hart.ensures in
    let wide : length c.loop-number.cursors ≡ HART_ROW = c.loop-number.invariant.wide in
    let many : length c.loop-number.waits ≡ HART_ROW = c.loop-number.invariant.many in
    let below : c.index.result < HART_LIMIT = c.index.ensures.below in
    rw (here, there)
    (record {
      wide = length-set c.loop-number.cursors c.loop-number.number c.raise_hart-raised.new.cursor ∙ wide;
      many = length-set c.loop-number.waits c.loop-number.number c.raise_hart-raised.result.waits ∙ many;
      harts = c.raise_hart-raised.ensures.harts ∙ c.loop-number.invariant.harts;
      cut = c.raise_hart-raised.ensures.cut;
      over =
          set_over s term base (count_at c.loop-number.cut) (count_at c.raise_hart-raised.new.cut) c.loop-number.cursors c.loop-number.number
          c.raise_hart-raised.new.cursor (omega arith) c.raise_hart-raised.ensures.rises c.loop-number.invariant.over
          (rw c.new-hart.ensures at c.raise_hart-raised.ensures.over);
      same = λ is. let (a, b) = none_rose c is in c.raise_hart-raised.ensures.same b ∙ c.loop-number.invariant.same a;
      less =
          λ is.
          let le : room c.raise_hart-raised.new.cut ≤ room c.loop-number.cut =
          room_le c.raise_hart-raised.result.rose c.loop-number.cut c.raise_hart-raised.new.cut c.raise_hart-raised.ensures.same
          c.raise_hart-raised.ensures.less in
          elim c.if-rose.branch [
            | then-rose w ↦ let l : room c.loop-number.cut < room c.args.cut.now = c.loop-number.invariant.less w.if-rose.true in omega arith
            | else-rose w ↦
                let l : room c.raise_hart-raised.new.cut < room c.loop-number.cut = c.raise_hart-raised.ensures.less (sym w.rose-is ∙ is) in
                let e : room c.loop-number.cut ≡ room c.args.cut.now = ap room (c.loop-number.invariant.same w.if-rose.false) in
                omega arith
          ];
      waits =
          λ is h less.
          let (a, b) = none_rose c is in
          elim (cases_eq h c.loop-number.number) [
            | inl same ↦
                rw (
                  same,
                  get_or-set_same c.loop-number.waits c.loop-number.number c.raise_hart-raised.result.waits None (omega arith),
                  ← c.loop-number.invariant.same a,
                )
                (rw c.new-hart.ensures at c.raise_hart-raised.ensures.waits b)
            | inr ne ↦
                rw (get_or-set_other c.loop-number.waits c.loop-number.number h c.raise_hart-raised.result.waits None ne)
                (c.loop-number.invariant.waits a h (omega arith))
          ];
      free =
          λ is h less.
          let (a, b) = none_waits c is in
          elim (cases_eq h c.loop-number.number) [
            | inl same ↦
                rw same (
                  get_or-set_same c.loop-number.waits c.loop-number.number c.raise_hart-raised.result.waits None (omega arith) ∙ b,
                  rw c.new-hart.ensures at
                      c.raise_hart-raised.ensures.ended b,
                )
            | inr ne ↦
                let (none, far) = c.loop-number.invariant.free a h (omega arith) in (
                  get_or-set_other c.loop-number.waits c.loop-number.number h c.raise_hart-raised.result.waits None ne ∙ none,
                  λ other is. le_trans (far other is) (c.raise_hart-raised.ensures.rises h),
                )
          ];
      rest =
          λ h le.
          let ne : h ≡ c.loop-number.number → ⊥ = λ (e : h ≡ c.loop-number.number). absurd (omega arith) in
          get_or-set_other c.loop-number.waits c.loop-number.number h c.raise_hart-raised.result.waits None ne ∙ c.loop-number.invariant.rest h (omega arith);
    })

pub returns-clause-waits : goal.returns-clause-waits
returns-clause-waits c none h =
    elim (cases_lt h c.loop-number.number) [
      | inl less ↦
          elim c.if-rose-2.branch [
            | then-rose-2 w ↦ let (free, far) = c.loop-number.invariant.free (sym w.rose-is ∙ none) h less in rw free far
            | else-rose-2 w ↦
                rw (c.loop-number.invariant.same w.if-rose-2.false) (c.loop-number.invariant.waits w.if-rose-2.false h less)
          ]
      | inr over ↦
          let s = c.args.store.now in
          let many : length c.args.opening.now.base ≡ s.guest.harts = base_many s c.args.opening.now c.requires.rules c.requires.opening in
          none_waiting s c.requires.rules c.args.opening.now.term (base_of c.args.opening.now) (option_map count_at c.args.limit.now) (count_at
          c.loop-number.cut) h _ c.loop-number.invariant.cut
          (omega arith) (c.loop-number.invariant.rest h over)
    ]

pub returns-clause-rest : goal.returns-clause-rest
returns-clause-rest c h le = c.loop-number.invariant.rest h (omega (arith, c.loop-number.invariant.harts, le))

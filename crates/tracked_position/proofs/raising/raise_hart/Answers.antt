use Rattle.std.proofs.Common.{◌≡◌, ◌∙◌, ◌<◌, ◌≤◌, ◌^◌, ℕ, List, Option, Some, None, IfSome, IfNone, refl, sym, subst, arith, le_of_eq, get_or-set_same}
use Rattle.edge_log.specs.declared.Edge.{Edge}
use Rattle.std.proofs.lemmas.Bool.{ltb-false}
use Rattle.ft_types.specs.Counts.{count_at}
use Rattle.closed_cut.specs.Position.{base_of, pieces_of}
use Rattle.tracked_position.specs.machinery.Walks.{IsOver, IsAhead, StopsBefore, EndsAt, stop_count, other_of}
use Rattle.tracked_position.specs.machinery.Waits.{IsWaiting, limited_to}
use Rattle.tracked_position.proofs.Cuts.{own, raised, set_rises, limited_is, limited_le, limited_holds}
use Rattle.tracked_position.proofs.Stops.{over_on, over_more, ended_waits, stop_comes, stop_below, stop_met, stop_waits, comes_less}
use Rattle.std.specs.Option.{option_map}
use Rattle.tracked_position.proofs.raising.raise_hart.Goals as goal
use Rattle.tracked_position.proofs.raising.raise_hart.Goals.{then-rose, else-rose, then-end-count, else-end-count}

pub walk_further-stop-requires-clause-ahead : goal.walk_further-stop-requires-clause-ahead
walk_further-stop-requires-clause-ahead c =
    subst (λ t. IsAhead (pieces_of c.args.store.now t c.args.hart) (count_at c.args.cut.now) c.args.cursor.now c.args.cursor.now.ahead) (sym c.term.ensures)
    c.requires.over.seen

-- the walk came so far, and stopped there
over : (c : goal.Joined-end-count) → IsOver (pieces_of c.args.store.now c.args.opening.now.term c.args.hart) (base_of c.args.opening.now c.args.hart)
    (count_at c.args.cut.now) c.walk_further-stop.result.cursor
over c =
    over_on (pieces_of c.args.store.now c.args.opening.now.term c.args.hart) (base_of c.args.opening.now c.args.hart) (count_at c.args.cut.now) (2 ^ 48)
    c.args.cursor.now c.walk_further-stop.result.cursor
    (λ place x e one has. (own c.args.store.now c.requires.rules c.args.opening.now.term c.args.hart place x e one has).count) c.requires.over
    (rw c.term.ensures at c.walk_further-stop.ensures.goes) (rw c.term.ensures at c.walk_further-stop.ensures.ahead)

before : (c : goal.Joined-end-count) → IfSome c.walk_further-stop.result.edge
    (StopsBefore (pieces_of c.args.store.now c.args.opening.now.term c.args.hart) (count_at c.args.cut.now) (2 ^ 48) c.walk_further-stop.result.cursor)
before c = rw c.term.ensures at c.walk_further-stop.ensures.before

ends : (c : goal.Joined-end-count) → IfNone c.walk_further-stop.result.edge
    (EndsAt (pieces_of c.args.store.now c.args.opening.now.term c.args.hart) c.walk_further-stop.result.cursor)
ends c = rw c.term.ensures at c.walk_further-stop.ensures.end

-- it goes no further than the walk came
within : (c : goal.After-set-arg-1) → c.limited-end.result ≤ stop_count c.walk_further-stop.result.cursor c.walk_further-stop.result.edge
within c =
    rw (c.limited-end.ensures, c.count-count.ensures)
    (limited_le c.args.limit.now c.args.hart (stop_count c.walk_further-stop.result.cursor c.walk_further-stop.result.edge))

pub set-requires-clause-count : goal.set-requires-clause-count
set-requires-clause-count c =
    let le : c.limited-end.result ≤ stop_count c.walk_further-stop.result.cursor c.walk_further-stop.result.edge = within c in
    let less : stop_count c.walk_further-stop.result.cursor c.walk_further-stop.result.edge < 2 ^ 48 =
    stop_below c.args.store.now c.requires.rules c.args.opening.now.term (base_of c.args.opening.now) (count_at c.args.cut.now) c.args.hart (2 ^ 48)
    c.walk_further-stop.result.cursor
    (over_on (pieces_of c.args.store.now c.args.opening.now.term c.args.hart) (base_of c.args.opening.now c.args.hart) (count_at c.args.cut.now) (2 ^ 48)
    c.args.cursor.now c.walk_further-stop.result.cursor
    (λ place x e one has. (own c.args.store.now c.requires.rules c.args.opening.now.term c.args.hart place x e one has).count) c.requires.over
    (rw c.term.ensures at c.walk_further-stop.ensures.goes) (rw c.term.ensures at c.walk_further-stop.ensures.ahead)) c.args.opening.now c.requires.opening refl (omega arith) c.walk_further-stop.result.edge
    (rw c.term.ensures at c.walk_further-stop.ensures.before) in
    omega arith

pub returns-clause-cut : goal.returns-clause-cut
returns-clause-cut c =
    let s = c.args.store.now in
    let term = c.args.opening.now.term in
    let base = base_of c.args.opening.now in
    let cut = count_at c.args.cut.now in
    let at = c.walk_further-stop.result.cursor in
    let edge = c.walk_further-stop.result.edge in
    let le : c.limited-end.result ≤ stop_count at edge =
    rw (c.limited-end.ensures, c.count-count.ensures) (limited_le c.args.limit.now c.args.hart (stop_count at edge)) in
    elim c.if-rose.branch [
      | then-rose w ↦
          rw (w.cut-is, w.set.ensures)
          (raised s c.requires.rules term base (option_map count_at c.args.limit.now) c.args.cut.now c.args.hart c.limited-end.result c.requires.cut
          c.requires.hart (let less : c.get-here.result < c.limited-end.result = w.if-rose.true in omega arith)
          (rw c.limited-end.ensures (limited_is c.args.limit.now c.args.hart c.count-count.result))
          (comes_less (pieces_of s term c.args.hart) (base c.args.hart) (stop_count at edge) c.limited-end.result le
          (stop_comes s c.requires.rules term base cut c.args.hart (2 ^ 48) at (over c) edge (before c)))
          (λ place x e goes has less.
          stop_met s c.requires.rules term base cut c.args.hart (2 ^ 48) at (over c) edge (before c) (ends c) place x e goes has (omega arith)))
      | else-rose w ↦ rw w.cut-is c.requires.cut
    ]

pub returns-clause-over : goal.returns-clause-over
returns-clause-over c =
    over_more (pieces_of c.args.store.now c.args.opening.now.term c.args.hart) (base_of c.args.opening.now c.args.hart) (count_at c.args.cut.now)
    (count_at c.if-rose.cut) c.walk_further-stop.result.cursor
    (elim c.if-rose.branch [
      | then-rose w ↦
          rw (w.cut-is, w.set.ensures)
          (set_rises c.args.cut.now c.args.hart c.limited-end.result c.requires.hart
          (let less : c.get-here.result < c.limited-end.result = w.if-rose.true in omega arith))
      | else-rose w ↦ rw w.cut-is (λ h. le_of_eq refl)
    ]) (over c)

pub returns-clause-waits : goal.returns-clause-waits
returns-clause-waits c risen =
    let at = c.walk_further-stop.result.cursor in
    let edge = c.walk_further-stop.result.edge in
    let down : c.limited-end.result ≤ c.get-here.result = ltb-false c.get-here.result c.limited-end.result risen in
    let is : c.limited-end.result ≡ limited_to c.args.limit.now c.args.hart c.count-count.result = c.limited-end.ensures in
    elim c.if-end-count.branch [
      | then-end-count w ↦
          rw w.waits-is
          (λ other cut_of.
          let less : c.limited-end.result < c.count-count.result = w.if-end-count.true in
          let le : other c.args.hart ≤ limited_to c.args.limit.now c.args.hart c.count-count.result =
          limited_holds c.args.limit.now other c.args.hart c.count-count.result cut_of.before_next (omega arith) in
          omega arith)
      | else-end-count w ↦
          let more : c.count-count.result ≤ c.limited-end.result = w.if-end-count.false in
          let le : limited_to c.args.limit.now c.args.hart c.count-count.result ≤ c.count-count.result =
          limited_le c.args.limit.now c.args.hart c.count-count.result in
          let whole : limited_to c.args.limit.now c.args.hart c.count-count.result ≡ c.count-count.result = omega arith in
          rw (w.waits-is, w.waits-waits.ensures)
          (stop_waits c.args.store.now c.requires.rules c.args.opening.now.term (base_of c.args.opening.now) (count_at c.args.cut.now) c.args.hart (2 ^ 48) at
          (over c) c.args.limit.now edge (before c) (ends c) (rw c.count-count.ensures at whole) (omega arith))
    ]

-- a walk that waits for none ends with the pieces
ends_free : (c : goal.Joined-end-count) (cut : List ℕ) (edge : Option Edge) →
    IfNone edge (EndsAt (pieces_of c.args.store.now c.args.opening.now.term c.args.hart) c.walk_further-stop.result.cursor) → other_of edge ≡ None →
    stop_count c.walk_further-stop.result.cursor edge ≤ count_at cut c.args.hart →
    IsOver (pieces_of c.args.store.now c.args.opening.now.term c.args.hart) (base_of c.args.opening.now c.args.hart) (count_at cut)
    c.walk_further-stop.result.cursor →
    IsWaiting c.args.store.now c.args.opening.now.term (base_of c.args.opening.now) (option_map count_at c.args.limit.now) (count_at cut) c.args.hart None
ends_free c cut None ends free le over =
    ended_waits c.args.store.now c.requires.rules c.args.opening.now.term (base_of c.args.opening.now) (count_at cut) c.args.hart (2 ^ 48)
    c.walk_further-stop.result.cursor over (option_map count_at c.args.limit.now) ends le
ends_free c cut (Some e) ends free le over = absurd (cc free)

pub returns-clause-ended : goal.returns-clause-ended
returns-clause-ended c free =
    let up : c.limited-end.result ≤ count_at c.if-rose.cut c.args.hart =
    elim c.if-rose.branch [
      | then-rose w ↦
          rw (w.cut-is, w.set.ensures) (le_of_eq (sym (get_or-set_same c.args.cut.now c.args.hart c.limited-end.result 0 c.requires.hart)))
      | else-rose w ↦
          let down : c.limited-end.result ≤ c.get-here.result = w.if-rose.false in
          rw w.cut-is (rw c.get-here.ensures.value at down)
    ] in
    let is : c.limited-end.result ≡ limited_to c.args.limit.now c.args.hart c.count-count.result = c.limited-end.ensures in
    elim c.if-end-count.branch [
      | then-end-count w ↦
          λ other cut_of.
          let less : c.limited-end.result < c.count-count.result = w.if-end-count.true in
          let le : other c.args.hart ≤ limited_to c.args.limit.now c.args.hart c.count-count.result =
          limited_holds c.args.limit.now other c.args.hart c.count-count.result cut_of.before_next (omega arith) in
          omega arith
      | else-end-count w ↦
          let more : c.count-count.result ≤ c.limited-end.result = w.if-end-count.false in
          let le : limited_to c.args.limit.now c.args.hart c.count-count.result ≤ c.count-count.result =
          limited_le c.args.limit.now c.args.hart c.count-count.result in
          let far : c.count-count.result ≤ count_at c.if-rose.cut c.args.hart = omega arith in
          ends_free c c.if-rose.cut c.walk_further-stop.result.edge (ends c) (sym w.waits-waits.ensures ∙ (sym w.waits-is ∙ free))
          (rw c.count-count.ensures at far) (returns-clause-over c)
    ]

-- it has ended there
pub returns-then-is_at_end-clause-waits : goal.returns-then-is_at_end-clause-waits
returns-then-is_at_end-clause-waits c _ =
    let s = c.args.store.now in
    let o = c.args.opening.now in
    let at = c.args.cursor.now in
    let (ended, far) = c.is_at_end.ensures c.if-is_at_end.true in
    ended_waits s c.requires.rules o.term (base_of o) (count_at c.args.cut.now) c.args.hart (2 ^ 48) at c.requires.over (option_map count_at c.args.limit.now)
    (subst (IsAhead (pieces_of s o.term c.args.hart) (count_at c.args.cut.now) at) ended c.requires.over.seen) (rw c.get-here.ensures.value at far)

pub returns-then-is_at_end-clause-ended : goal.returns-then-is_at_end-clause-ended
returns-then-is_at_end-clause-ended c _ =
    let s = c.args.store.now in
    let o = c.args.opening.now in
    let at = c.args.cursor.now in
    let (ended, far) = c.is_at_end.ensures c.if-is_at_end.true in
    ended_waits s c.requires.rules o.term (base_of o) (count_at c.args.cut.now) c.args.hart (2 ^ 48) at c.requires.over (option_map count_at c.args.limit.now)
    (subst (IsAhead (pieces_of s o.term c.args.hart) (count_at c.args.cut.now) at) ended c.requires.over.seen) (rw c.get-here.ensures.value at far)

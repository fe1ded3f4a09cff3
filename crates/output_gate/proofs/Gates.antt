-- What a gate's type keeps, where its lines change.
use Rattle.std.proofs.Common.{◌≡◌, ◌≢◌, ℕ, ◌+◌, ◌-◌, ◌<◌, ◌≤◌, List, [], ◌∷◌, ◌++◌, length, take, drop, get_or, slice_index_or, Result, Ok, Err, OnOk, OnErr, refl}
use Rattle.std.proofs.Common.{ap, sym, inl, inr, ◌∙◌, subst, arith, append_assoc, append-nil, take-add, drop-drop, take-append-drop, length-append}
use Rattle.std.proofs.lemmas.Bool.{cases_lt, lt-ltb, le-ltb}
use Rattle.std.proofs.Math.Seq.{take-append_seam, drop-append_seam}
use Rattle.std.specs.List.{All, AllByRecursion, Contains, filter}
use Rattle.std.specs.List.Sorted.{IsPermutation}
use Rattle.std.proofs.lemmas.List.{get_or_default, length-drop}
use Rattle.std.proofs.lemmas.List.Elements.{All-from_recursion, recursion_from_All, All-contains, Contains-get_or, Contains-append_left, Contains-push}
use Rattle.std.proofs.lemmas.List.Sorted.{length_permutation, All-permutation, Contains-permutation, IsPermutation-append_right, IsPermutation-filter_both}
use mathlib.Core.Logic.{dite}
use native.Mathlib.Decide.{ℕ_discrete}
use Rattle.ft_types.specs.declared.output.Output.{Output}
use Rattle.ft_types.specs.declared.names.TheConstants.{HART_LIMIT, HART_ROW, KEEPER_LIMIT, KEEPER_ROW}
use Rattle.output_gate.specs.Gates.{LineView, fresh_line, offered_in, with_offer, is_held, is_not_held, after_release}
use Rattle.output_gate.specs.Orders.{ComesAfter, AreInLine, NoneIsBefore, StepsRise, IsBefore, AreBehind, IsNext, AreUpTo, IsLineOf}
use Rattle.output_gate.specs.machinery.Lines.{IsGate}
use Rattle.output_gate.proofs.Alls.{all_so, all_both, all_join, all_front, all_back}
use Rattle.output_gate.proofs.Fronts.{held_first}
use Rattle.output_gate.proofs.Orders.{rise-filter, rise_join}

-- the first of those in line are in line
pub in_line-front : (xs ys : List Output) → AreInLine (xs ++ ys) → AreInLine xs
in_line-front [] ys line = tt
in_line-front (x ∷ xs) ys line = (all_front (ComesAfter x) xs ys line.0, in_line-front xs ys line.1)

-- the last of those in line are in line
pub in_line-back : (xs ys : List Output) → AreInLine (xs ++ ys) → AreInLine ys
in_line-back [] ys line = line
in_line-back (x ∷ xs) ys line = in_line-back xs ys line.1

-- none of the last comes before one of the first
pub none_before : (xs ys : List Output) → AreInLine (xs ++ ys) → NoneIsBefore ys xs
none_before [] ys line = tt
none_before (x ∷ xs) ys line = (all_back (ComesAfter x) xs ys line.0, none_before xs ys line.1)

in_line-more : (xs : List Output) (x : Output) → AreInLine xs → AllByRecursion (λ o. ComesAfter o x) xs → AreInLine (xs ++ x ∷ [])
in_line-more [] x line last = (tt, tt)
in_line-more (y ∷ ys) x line last = (all_join (ComesAfter y) ys (x ∷ []) line.0 (last.0, tt), in_line-more ys x line.1 last.1)

abbrev AreOfHart : ℕ → List Output → Type 0
AreOfHart hart xs = AllByRecursion (λ o. (o.hart ≡ hart) × (o.number < length xs)) xs

-- what holds of whatever the list has
all_had : (P : Output → Type 0) (xs : List Output) → ((o : Output) → Contains xs o → P o) → AllByRecursion P xs
all_had P xs each = recursion_from_All P xs (λ k d below. each (get_or xs k d) (Contains-get_or xs k d below))

-- those of the hart stand behind one another
pub behind_all : (hart : ℕ) (xs : List Output) (x : Output) → AreOfHart hart xs → x.hart ≡ hart → x.number ≡ length xs → AreBehind x xs
behind_all hart xs x its same number = all_so (λ o. (o.hart ≡ hart) × (o.number < length xs)) (λ o. (o.hart ≡ x.hart) × (o.number < x.number))
    (λ o h. let below = h.1 in (h.0 ∙ sym same, omega arith)) xs its

of_hart-more : (hart : ℕ) (xs : List Output) (x : Output) → AreOfHart hart xs → x.hart ≡ hart → x.number ≡ length xs → AreOfHart hart (xs ++ x ∷ [])
of_hart-more hart xs x its same number =
    let more : length (xs ++ x ∷ []) ≡ length xs + 1 = length-append xs (x ∷ []) in
    all_join (λ o. (o.hart ≡ hart) × (o.number < length (xs ++ x ∷ []))) xs (x ∷ [])
    (all_so (λ o. (o.hart ≡ hart) × (o.number < length xs)) (λ o. (o.hart ≡ hart) × (o.number < length (xs ++ x ∷ [])))
    (λ o h. let below = h.1 in (h.0, omega arith)) xs its)
    ((same, omega arith), tt)

-- one more of these, whose step is not earlier
pub line-more : (xs : List Output) (x : Output) → AreInLine xs → AreBehind x xs → AreUpTo x.step xs → AreInLine (xs ++ x ∷ [])
line-more xs x line behind steps = in_line-more xs x line
    (all_so (λ o. ((o.hart ≡ x.hart) × (o.number < x.number)) × (o.step ≤ x.step)) (λ o. ComesAfter o x)
    (λ o h. record { hart = sym h.0.0; number = h.0.1; step = h.1 }) xs
    (all_both (λ o. (o.hart ≡ x.hart) × (o.number < x.number)) (λ o. o.step ≤ x.step) xs behind steps))

-- where their steps rise with it, they are in line with it
line_if_rising-more : (xs : List Output) (x : Output) → (StepsRise xs → AreInLine xs) → AreBehind x xs → StepsRise (xs ++ x ∷ []) → AreInLine (xs ++ x ∷ [])
line_if_rising-more xs x line behind rise =
    let numbers : All (λ o. (o.hart ≡ x.hart) × (o.number < x.number)) xs
    = All-from_recursion (λ o. (o.hart ≡ x.hart) × (o.number < x.number)) xs behind in
    line-more xs x (line (λ o later a b. rise o later (Contains-append_left xs (x ∷ []) o a) (Contains-append_left xs (x ∷ []) later b))) behind
    (all_had (λ o. o.step ≤ x.step) xs
    (λ o a. rise o x (Contains-append_left xs (x ∷ []) o a) (Contains-push xs x) (All-contains (λ o. (o.hart ≡ x.hart) × (o.number < x.number)) xs o numbers
    a).1))

-- of outputs with numbers from the mark on, none is below a count that is not above it
none_left : (mark hart n : ℕ) (xs : List Output) → n ≤ mark → AllByRecursion (λ o. mark ≤ o.number) xs →
    AllByRecursion (λ o. (o.hart ≡ hart) × (o.number < n)) xs → xs ≡ []
none_left mark hart n [] le from below = refl
none_left mark hart n (x ∷ xs) le from below = let a = from.0 in let b = below.0.1 in absurd (omega arith)

-- the outputs of a line with one more behind them
module _ (hart : ℕ) (line : LineView) (x : Output) (is : IsLineOf hart line) (same : x.hart ≡ hart) (number : x.number ≡ length (offered_in line)) where
  behind : AreBehind x (offered_in line)
  behind = behind_all hart (offered_in line) x is.of_hart same number

  abbrev Fits : List Output → Type 0
  Fits l = AreOfHart hart l × (StepsRise l → AreInLine l)

  fits : (l : List Output) → l ≡ offered_in line ++ x ∷ [] → Fits l
  fits l e = subst Fits (sym e) (of_hart-more hart (offered_in line) x is.of_hart same number, line_if_rising-more (offered_in line) x is.in_line behind)

  abbrev rest : List Output
  rest = line.gone ++ line.waiting

  -- where it is below the mark, none went out and none waits
  passed_whole : x.number < line.mark → (line.passed ++ x ∷ []) ++ rest ≡ offered_in line ++ x ∷ []
  passed_whole below =
      let none : rest ≡ [] =
      none_left line.mark hart (length (offered_in line)) rest (omega (arith, number, below)) is.others
      (all_back (λ o. (o.hart ≡ hart) × (o.number < length (offered_in line))) line.passed rest is.of_hart) in
      ap (λ (l : List Output). (line.passed ++ x ∷ []) ++ l) none ∙ append-nil (line.passed ++ x ∷ []) ∙
      ap (λ (l : List Output). l ++ x ∷ []) (sym (append-nil line.passed) ∙ ap (λ (l : List Output). line.passed ++ l) (sym none))

  rest_longer : line.gone ++ (line.waiting ++ x ∷ []) ≡ rest ++ x ∷ []
  rest_longer = sym (append_assoc line.gone line.waiting (x ∷ []))

  waiting_whole : line.passed ++ (line.gone ++ (line.waiting ++ x ∷ [])) ≡ offered_in line ++ x ∷ []
  waiting_whole = ap (λ (l : List Output). line.passed ++ l) rest_longer ∙ sym (append_assoc line.passed rest (x ∷ []))

  -- it is the last that was offered
  pub longer : offered_in (with_offer line x) ≡ offered_in line ++ x ∷ []
  longer = elim (cases_lt x.number line.mark) [
    | inl below ↦ rw (lt-ltb x.number line.mark below) (passed_whole below)
    | inr above ↦ rw (le-ltb x.number line.mark above) waiting_whole
  ]

  passes : x.number < line.mark → IsLineOf hart (record line { passed = line.passed ++ x ∷ [] })
  passes below =
      let all : Fits ((line.passed ++ x ∷ []) ++ rest) = fits ((line.passed ++ x ∷ []) ++ rest) (passed_whole below) in
      record {
        of_hart = all.0;
        passed = all_join (λ o. o.number < line.mark) line.passed (x ∷ []) is.passed (below, tt);
        others = is.others;
        by_number = is.by_number;
        in_line = all.1;
      }

  waits : line.mark ≤ x.number → IsLineOf hart (record line { waiting = line.waiting ++ x ∷ [] })
  waits above =
      let all = fits (line.passed ++ (line.gone ++ (line.waiting ++ x ∷ []))) waiting_whole in
      let last : AreBehind x line.waiting =
      all_back (λ o. (o.hart ≡ x.hart) × (o.number < x.number)) line.gone line.waiting
      (all_back (λ o. (o.hart ≡ x.hart) × (o.number < x.number)) line.passed rest behind) in
      record {
        of_hart = all.0;
        passed = is.passed;
        others =
            subst (AllByRecursion (λ o. line.mark ≤ o.number)) (sym rest_longer)
            (all_join (λ o. line.mark ≤ o.number) rest (x ∷ []) is.others (above, tt));
        by_number = rise_join line.waiting (x ∷ []) is.by_number (tt, tt)
            (all_so (λ o. (o.hart ≡ x.hart) × (o.number < x.number)) (λ o. AllByRecursion (IsBefore o) (x ∷ [])) (λ o h. (inr h, tt)) line.waiting last);
        in_line = all.1;
      }

  line_grows : IsLineOf hart (with_offer line x)
  line_grows = elim (cases_lt x.number line.mark) [
    | inl below ↦ rw (lt-ltb x.number line.mark below) (passes below)
    | inr above ↦ rw (le-ltb x.number line.mark above) (waits above)
  ]

-- ---- releases

-- what went out and waits moves
rest_moves : (need : ℕ) (noted : List (List ℕ)) (line : LineView) →
    IsPermutation (line.gone ++ line.waiting)
    ((line.gone ++ filter (is_held need noted) line.waiting) ++ filter (is_not_held need noted) line.waiting)
rest_moves need noted line =
    let front : List Output = filter (is_held need noted) line.waiting in
    let back : List Output = filter (is_not_held need noted) line.waiting in
    subst (λ (l : List Output). IsPermutation (line.gone ++ line.waiting) l) (sym (append_assoc line.gone front back))
    (IsPermutation-append_right line.gone line.waiting (front ++ back)
    (IsPermutation-filter_both (is_held need noted) (is_not_held need noted) (λ _. refl) line.waiting))

-- what was offered is so still
pub release_moves : (need : ℕ) (noted : List (List ℕ)) (line : LineView) → IsPermutation (offered_in line) (offered_in (after_release need noted line))
release_moves need noted line =
    IsPermutation-append_right line.passed (line.gone ++ line.waiting)
    ((line.gone ++ filter (is_held need noted) line.waiting) ++ filter (is_not_held need noted) line.waiting) (rest_moves need noted line)

-- in the same order, where those that wait are in line
pub release_keeps : (need : ℕ) (noted : List (List ℕ)) (line : LineView) → AreInLine line.waiting →
    offered_in (after_release need noted line) ≡ offered_in line
release_keeps need noted line waits =
    ap (λ (l : List Output). line.passed ++ l)
    (append_assoc line.gone (filter (is_held need noted) line.waiting) (filter (is_not_held need noted) line.waiting)
    ∙ ap (λ (l : List Output). line.gone ++ l) (held_first need noted line.waiting waits))

-- those that wait are in line where all are
waiting_in_line : (line : LineView) → AreInLine (offered_in line) → AreInLine line.waiting
waiting_in_line line all = in_line-back line.gone line.waiting (in_line-back line.passed (line.gone ++ line.waiting) all)

pub line_releases : (need : ℕ) (noted : List (List ℕ)) (hart : ℕ) (line : LineView) → IsLineOf hart line → IsLineOf hart (after_release need noted line)
line_releases need noted hart line is =
    let old : List Output = offered_in line in
    let new : List Output = offered_in (after_release need noted line) in
    let moves : IsPermutation old new = release_moves need noted line in
    let P : Output → Type 0 = λ o. (o.hart ≡ hart) × (o.number < length old) in
    let was : List Output = line.gone ++ line.waiting in
    let rest : List Output = (line.gone ++ filter (is_held need noted) line.waiting) ++ filter (is_not_held need noted) line.waiting in
    let Q : Output → Type 0 = λ o. line.mark ≤ o.number in
    record {
      of_hart = subst (λ (n : ℕ). AllByRecursion (λ o. (o.hart ≡ hart) × (o.number < n)) new) (sym (length_permutation old new moves))
          (recursion_from_All P new (All-permutation P old new moves (All-from_recursion P old is.of_hart)));
      passed = is.passed;
      others = recursion_from_All Q rest (All-permutation Q was rest (rest_moves need noted line) (All-from_recursion Q was is.others));
      by_number = rise-filter (is_not_held need noted) line.waiting is.by_number;
      in_line = λ rise.
          let line_is : AreInLine old
          = is.in_line (λ o later a b. rise o later (Contains-permutation old new o moves a) (Contains-permutation old new later moves b)) in
          subst AreInLine (sym (release_keeps need noted line (waiting_in_line line line_is))) line_is;
    }

abbrev line_with : ℕ → List Output → List Output → List Output → LineView
line_with mark passed gone waiting = record { mark = mark; passed = passed; gone = gone; waiting = waiting }

-- so many more that wait went out
abbrev gone_on : ℕ → LineView → LineView
gone_on more line = record line { gone = line.gone ++ take more line.waiting; waiting = drop more line.waiting }

-- of the outputs, so many were released, and then some more
pub line_goes_on : (mark : ℕ) (passed : List Output) (released more : ℕ) (offered : List Output) (line : LineView) →
    line_with mark passed (take released offered) (drop released offered) ≡ line →
    line_with mark passed (take (released + more) offered) (drop (released + more) offered) ≡ gone_on more line
line_goes_on mark passed released more offered line is =
    ap (λ (gone : List Output). line_with mark passed gone (drop (released + more) offered)) (take-add released more offered)
    ∙ ap (λ (waiting : List Output). line_with mark passed (take released offered ++ take more (drop released offered)) waiting)
    (sym (drop-drop more released offered))
    ∙ ap (gone_on more) is

-- of each line, what is held went out
pub gate_releases : (keepers need : ℕ) (noted : List (List ℕ)) (old new : List LineView) → IsGate keepers need noted old → length new ≡ HART_ROW
    → ((hart : ℕ) (other : LineView) → hart < HART_LIMIT → slice_index_or new hart other ≡ after_release need noted (slice_index_or old hart other))
    → IsGate keepers need noted new
gate_releases keepers need noted old new gate len at = record {
  few = gate.few;
  some = gate.some;
  enough = gate.enough;
  rows = gate.rows;
  wide = gate.wide;
  harts = len;
  each = λ hart other below. subst (IsLineOf hart) (sym (at hart other below)) (line_releases need noted hart (slice_index_or old hart other)
      (gate.each hart other below));
}

-- one line has one more output
gate_grows : (keepers need : ℕ) (noted : List (List ℕ)) (old new : List LineView) (x : Output) (other : LineView) → IsGate keepers need noted old →
    length new ≡ HART_ROW → x.hart < HART_LIMIT
    → ((d : LineView) → slice_index_or new x.hart d ≡ with_offer (slice_index_or old x.hart d) x)
    → ((hart : ℕ) (d : LineView) → hart ≢ x.hart → slice_index_or new hart d ≡ slice_index_or old hart d)
    → x.number ≡ length (offered_in (slice_index_or old x.hart other))
    → IsGate keepers need noted new
gate_grows keepers need noted old new x other gate len below here elsewhere number = record {
  few = gate.few;
  some = gate.some;
  enough = gate.enough;
  rows = gate.rows;
  wide = gate.wide;
  harts = len;
  each = λ hart d in_harts. dite (ℕ_discrete hart x.hart)
      (λ e. subst (λ (h : ℕ). IsLineOf h (slice_index_or new h d)) (sym e) (subst (IsLineOf x.hart) (sym (here d))
      (let q : (P : LineView → Type 0) → P (slice_index_or old x.hart other) → P (slice_index_or old x.hart d) = λ P. subst P (get_or_default old x.hart other d
      (let many = gate.harts in omega arith)) in
      line_grows x.hart (slice_index_or old x.hart d) x (gate.each x.hart d below) refl (q (λ l. x.number ≡ length (offered_in l)) number))))
      (λ ne. subst (IsLineOf hart) (sym (elsewhere hart d ne)) (gate.each hart d in_harts));
}

-- the same, or memory was refused
pub gate_offered : {X Y : Type 0} (r : Result X Y) (keepers need : ℕ) (noted : List (List ℕ)) (old new : List LineView) (x : Output) (other : LineView) →
    IsGate keepers need noted old → length new ≡ HART_ROW → x.hart < HART_LIMIT
    → OnOk r ((d : LineView) → slice_index_or new x.hart d ≡ with_offer (slice_index_or old x.hart d) x)
    → ((hart : ℕ) (d : LineView) → hart ≢ x.hart → slice_index_or new hart d ≡ slice_index_or old hart d)
    → OnErr r (new ≡ old)
    → x.number ≡ length (offered_in (slice_index_or old x.hart other))
    → IsGate keepers need noted new
gate_offered (Ok v) keepers need noted old new x other gate len below here elsewhere same number = gate_grows keepers need noted old new x other gate len
    below here elsewhere number
gate_offered (Err e) keepers need noted old new x other gate len below here elsewhere same number = subst (IsGate keepers need noted) (sym same) gate

-- what was offered is longer by it
pub gate_longer : {X Y : Type 0} (r : Result X Y) (keepers need : ℕ) (noted : List (List ℕ)) (old new : List LineView) (x : Output) →
    IsGate keepers need noted old → x.hart < HART_LIMIT → OnOk r ((d : LineView) → slice_index_or new x.hart d ≡ with_offer (slice_index_or old x.hart d) x) →
    x.number ≡ length (offered_in (slice_index_or old x.hart (fresh_line 0))) →
    OnOk r (offered_in (slice_index_or new x.hart (fresh_line 0)) ≡ offered_in (slice_index_or old x.hart (fresh_line 0)) ++ x ∷ [])
gate_longer (Ok v) keepers need noted old new x gate below here number =
    ap offered_in (here (fresh_line 0)) ∙ longer x.hart (slice_index_or old x.hart (fresh_line 0)) x (gate.each x.hart (fresh_line 0) below) refl number
gate_longer (Err e) keepers need noted old new x gate below here number = tt

-- ---- a line of which so many are held

-- the line with those that are held before the others
abbrev pub in_front : ℕ → List (List ℕ) → LineView → LineView
in_front need noted line = record line { waiting = filter (is_held need noted) line.waiting ++ filter (is_not_held need noted) line.waiting }

-- where those that wait are in line, those that are held are the first
pub brought : (need : ℕ) (noted : List (List ℕ)) (line : LineView) → AreInLine line.waiting → line ≡ in_front need noted line
brought need noted line waits =
    ap (λ (l : List Output). let v : LineView = record line { waiting = l } in v) (sym (held_first need noted line.waiting waits))

-- the first so many went out, once those that are held were brought forward
pub line_released : (need : ℕ) (noted : List (List ℕ)) (mark : ℕ) (passed : List Output) (released held : ℕ) (offered : List Output)
    (line brought : LineView) → line_with mark passed (take released offered) (drop released offered) ≡ brought → brought ≡ in_front need noted line →
    held ≡ length (filter (is_held need noted) line.waiting) →
    line_with mark passed (take (released + held) offered) (drop (released + held) offered) ≡ after_release need noted line
line_released need noted mark passed released held offered line brought view is many =
    let front : List Output = filter (is_held need noted) line.waiting in
    let back : List Output = filter (is_not_held need noted) line.waiting in
    let with : List Output → List Output → LineView = λ gone waiting. record line { gone = gone; waiting = waiting } in
    line_goes_on mark passed released held offered brought view
    ∙ ap (gone_on held) is
    ∙ ap (λ n. with (line.gone ++ take n (front ++ back)) (drop n (front ++ back))) many
    ∙ ap (λ (l : List Output). with (line.gone ++ l) (drop (length front) (front ++ back))) (take-append_seam front back)
    ∙ ap (λ (l : List Output). with (line.gone ++ front) l) (drop-append_seam front back)

-- so many wait
pub released_within : (need : ℕ) (noted : List (List ℕ)) (mark : ℕ) (passed : List Output) (released held : ℕ) (offered : List Output)
    (line brought : LineView) → released ≤ length offered → line_with mark passed (take released offered) (drop released offered) ≡ brought →
    brought ≡ in_front need noted line → held ≡ length (filter (is_held need noted) line.waiting) → released + held ≤ length offered
released_within need noted mark passed released held offered line brought within view is many =
    let front : List Output = filter (is_held need noted) line.waiting in
    let back : List Output = filter (is_not_held need noted) line.waiting in
    let long : length (drop released offered) ≡ length (front ++ back) = ap (λ (l : LineView). length l.waiting) (view ∙ is) in
    let both : length (front ++ back) ≡ length front + length back = length-append front back in
    let rest : length (drop released offered) ≡ length offered - released = length-drop released offered in
    omega arith

-- what then waits is in line, where what waited was
pub line_still : (released held : ℕ) (offered : List Output) → AreInLine (drop released offered) → AreInLine (drop (released + held) offered)
line_still released held offered line =
    let waiting : List Output = drop released offered in
    subst AreInLine (drop-drop held released offered)
    (in_line-back (take held waiting) (drop held waiting) (subst AreInLine (sym (take-append-drop held waiting)) line))

-- ---- what the calls of a gate ask

abbrev pub no_line : LineView
no_line = fresh_line 0

-- the next output of a hart is behind those of its hart
pub next_is_behind : (keepers need : ℕ) (noted : List (List ℕ)) (lines : List LineView) (x : Output) → IsGate keepers need noted lines →
    x.number ≡ length (offered_in (slice_index_or lines x.hart no_line)) → x.hart < HART_LIMIT → (other : LineView) →
    IsNext x (slice_index_or lines x.hart other)
next_is_behind keepers need noted lines x gate number below other =
    let line : LineView = slice_index_or lines x.hart other in
    let same : slice_index_or lines x.hart no_line ≡ line = get_or_default lines x.hart no_line other (let many = gate.harts in omega arith) in
    let next : x.number ≡ length (offered_in line) = subst (λ (l : LineView). x.number ≡ length (offered_in l)) same number in
    let P : Output → Type 0 = λ o. (o.hart ≡ x.hart) × (o.number < x.number) in (
      next,
      all_back P line.gone line.waiting
          (all_back P line.passed (line.gone ++ line.waiting) (behind_all x.hart (offered_in line) x (gate.each x.hart other below).of_hart refl next)),
    )

abbrev AreReleased : ℕ → List (List ℕ) → List LineView → List LineView → Type 0
AreReleased need noted old new =
    (hart : ℕ) (other : LineView) → hart < HART_LIMIT → slice_index_or new hart other ≡ after_release need noted (slice_index_or old hart other)

pub offered_moves : (need : ℕ) (noted : List (List ℕ)) (old new : List LineView) → AreReleased need noted old new → (hart : ℕ) → hart < HART_LIMIT →
    IsPermutation (offered_in (slice_index_or old hart no_line)) (offered_in (slice_index_or new hart no_line))
offered_moves need noted old new at hart below =
    let line : LineView = slice_index_or old hart no_line in
    subst (λ (l : LineView). IsPermutation (offered_in line) (offered_in l)) (sym (at hart no_line below)) (release_moves need noted line)

pub offered_stays : (keepers need : ℕ) (noted : List (List ℕ)) (old new : List LineView) → IsGate keepers need noted old → AreReleased need noted old new →
    (hart : ℕ) → hart < HART_LIMIT → StepsRise (offered_in (slice_index_or old hart no_line)) →
    offered_in (slice_index_or new hart no_line) ≡ offered_in (slice_index_or old hart no_line)
offered_stays keepers need noted old new gate at hart below rise =
    let line : LineView = slice_index_or old hart no_line in
    ap offered_in (at hart no_line below) ∙ release_keeps need noted line (waiting_in_line line ((gate.each hart no_line below).in_line rise))

-- a gate whose lines are fresh
pub gate_fresh : (keepers need : ℕ) (noted : List (List ℕ)) (lines : List LineView) (marks : ℕ → ℕ) → keepers ≤ KEEPER_LIMIT → 0 < need → need ≤ keepers →
    length noted ≡ KEEPER_ROW → AllByRecursion (λ row. length row ≡ HART_ROW) noted → length lines ≡ HART_ROW →
    ((hart : ℕ) → slice_index_or lines hart no_line ≡ fresh_line (marks hart)) → IsGate keepers need noted lines
gate_fresh keepers need noted lines marks few some enough rows wide harts fresh =
    record {
      few = few;
      some = some;
      enough = enough;
      rows = rows;
      wide = wide;
      harts = harts;
      each = λ hart other below.
          subst (IsLineOf hart)
          (sym (get_or_default lines hart other no_line (omega arith) ∙ fresh hart))
          (record { of_hart = tt; passed = tt; others = tt; by_number = tt; in_line = λ rise. tt });
    }

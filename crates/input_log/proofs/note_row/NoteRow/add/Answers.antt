use Rattle.std.proofs.Common.{◌≡◌, ◌≤◌, ◌<◌, ◌-◌, ◌++◌, ◌∷◌, [], ℕ, List, All, true≢false, length, set, subst, sym, ap, ◌∙◌, arith, rules}
use Rattle.std.proofs.lemmas.List.{length_push}
use Rattle.input_log.specs.Notes.{greatest, noted, AreNotes, IsNotedBefore, NotesOfOne}
use Rattle.input_log.proofs.Notings.{noted_dropped, noted_over, noted_last, notes_over, notes_last, most_is, set_last, greatest_last}
use Rattle.input_log.proofs.note_row.NoteRow.add.Goals as goal

pub returns-then-number-last_number-clause-noted : goal.returns-then-number-last_number-clause-noted
returns-then-number-last_number-clause-noted c =
    let is : c.self.inside.notes.items ≡ c.args.self.now.notes = ap (λ (v : NotesOfOne). v.notes) c.self.view_is in
    let most : c.args.number ≤ greatest c.args.self.now.notes =
    subst (λ n. c.args.number ≤ n) (c.last_number.ensures ∙ ap greatest (c.as_slice.ensures.value ∙ is)) c.if-number-last_number.true in
    sym (noted_dropped c.args.self.now.notes c.args.at c.args.number most)

-- the notes that it had, where the last is of this count
fronts : (c : goal.After-len-last) → (front : List (ℕ × ℕ)) × (n : ℕ) × (c.self.inside.notes.items ≡ front ++ (c.args.at, n) ∷ [])
fronts c =
    let (front, n, is) = c.ends_at.ensures.ends c.if-ends_at.true in (front, n, sym c.as_slice-2.ensures.value ∙ is)

-- and their number is lower
lower : (c : goal.After-len-last) → (front : List (ℕ × ℕ)) (n : ℕ) → c.self.inside.notes.items ≡ front ++ (c.args.at, n) ∷ [] → n < c.args.number
lower c front n is =
    let rising = subst (λ (l : List (ℕ × ℕ)). AreNotes l) is c.self.invariant.0 in
    let most : c.last_number.result ≡ n =
    c.last_number.ensures ∙ ap greatest (c.as_slice.ensures.value ∙ is) ∙ greatest_last front (c.args.at, n) rising.rising in
    omega (arith, most, c.if-number-last_number.false)

pub overflow_sub-last : goal.overflow_sub-last
overflow_sub-last c =
    let (front, n, is) = c.ends_at.ensures.ends c.if-ends_at.true in
    omega (arith, ap length is, length_push front (c.args.at, n), c.as_slice-2.ensures.len, c.len-last.ensures)

pub index_mut-requires : goal.index_mut-requires
index_mut-requires c =
    let (front, n, is) = c.ends_at.ensures.ends c.if-ends_at.true in
    omega (arith, ap length is, length_push front (c.args.at, n), c.as_slice-2.ensures.len, c.len-last.ensures)

-- it makes way
over : (c : goal.After-len-last) (front : List (ℕ × ℕ)) (n : ℕ) → c.self.inside.notes.items ≡ front ++ (c.args.at, n) ∷ [] →
    set c.self.inside.notes.items (c.len-last.result - 1) (c.args.at, c.args.number) ≡ front ++ (c.args.at, c.args.number) ∷ []
over c front n was =
    let place : c.len-last.result ≡ length c.self.inside.notes.items =
    c.len-last.ensures ∙ sym c.as_slice-2.ensures.len ∙ ap length c.as_slice-2.ensures.value in
    rw place (set_last c.self.inside.notes.items front (c.args.at, n) (c.args.at, c.args.number) was)

pub invariant_of-self : goal.invariant_of-self
invariant_of-self c =
    let before : goal.After-len-last = search rules in
    let (front, n, was) = fronts before in (
      subst (λ (l : List (ℕ × ℕ)). AreNotes l) (sym (over before front n was))
          (notes_over front c.args.at c.args.number n (subst (λ (l : List (ℕ × ℕ)). AreNotes l) was c.self.invariant.0) (lower before front n was)
          c.requires.within),
      c.self.invariant.1,
    )

pub returns-then-ends_at-clause-noted : goal.returns-then-ends_at-clause-noted
returns-then-ends_at-clause-noted c =
    let before : goal.After-len-last = search rules in
    let (front, n, was) = fronts before in
    let is : c.self.inside.notes.items ≡ c.args.self.now.notes = ap (λ (v : NotesOfOne). v.notes) c.self.view_is in
    let rules_then : AreNotes (front ++ (c.args.at, n) ∷ []) = subst (λ (l : List (ℕ × ℕ)). AreNotes l) was c.self.invariant.0 in
    over before front n was ∙ sym (noted_over front c.args.at c.args.number n rules_then.rising (lower before front n was)) ∙
    ap (λ (l : List (ℕ × ℕ)). noted l c.args.at c.args.number) (sym was ∙ is)

-- all notes that it had are of earlier counts, with lower numbers
before : (c : goal.After-self-2-1) → All (λ x. IsNotedBefore x (c.args.at, c.args.number)) c.self.inside.notes.items
before c k d below =
    let earlier = subst (λ (l : List (ℕ × ℕ)). All (λ x. x.0 < c.args.at) l) c.as_slice-2.ensures.value (c.ends_at.ensures.before c.if-ends_at.false) in
    let most : greatest c.self.inside.notes.items ≡ c.last_number.result = sym (c.last_number.ensures ∙ ap greatest c.as_slice.ensures.value) in
    record {
      count = earlier k d below;
      number = most_is c.self.inside.notes.items c.args.number (omega (arith, most, c.if-number-last_number.false)) k d below;
    }

pub invariant_of-self-2 : goal.invariant_of-self-2
invariant_of-self-2 c = (
  subst (λ (l : List (ℕ × ℕ)). AreNotes l) (sym c.in_ok-push.ensures.items)
      (notes_last c.self.inside.notes.items c.args.at c.args.number c.self.invariant.0 (before c) (let over = c.if-number-last_number.false in omega arith) c.requires.within),
  λ is. absurd (true≢false (sym is)),
)

pub returns-clause-noted : goal.returns-clause-noted
returns-clause-noted c =
    let is : c.self.inside.notes.items ≡ c.args.self.now.notes = ap (λ (v : NotesOfOne). v.notes) c.self.view_is in
    let most : greatest c.self.inside.notes.items ≡ c.last_number.result = sym (c.last_number.ensures ∙ ap greatest c.as_slice.ensures.value) in
    c.in_ok-push.ensures.items ∙
    sym
    (noted_last c.self.inside.notes.items c.args.at c.args.number (λ k d below. (before c k d below).count)
    (omega (arith, most, c.if-number-last_number.false))) ∙
    ap (λ (l : List (ℕ × ℕ)). noted l c.args.at c.args.number) is

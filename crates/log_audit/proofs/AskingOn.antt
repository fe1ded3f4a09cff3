-- What a step asks for in addition.
use Rattle.std.proofs.Common.{◌≡◌, ◌≢◌, ◌⊎◌, inl, inr, ℕ, ◌+◌, ◌<◌, true, false, List, length, slice_set, slice_index}
use Rattle.std.proofs.Common.{Contains, ap, sym, subst, ◌∙◌, arith, length-set, get_or-set_same, get_or-set_other}
use Rattle.interleaving.specs.Machine.{Writes}
use Rattle.interleaving.proofs.Put.{same_or_not}
use Rattle.ft_types.specs.declared.names.Want.{Want}
use Rattle.ft_types.specs.declared.names.Want.TheVariants.{Read, Write}
use Rattle.ft_types.specs.declared.names.TheConstants.{HART_LIMIT, HART_ROW}
use Rattle.input_log.specs.declared.Input.{Input}
use Rattle.rv32_hart.specs.Hart.{Hart}
use Rattle.rv32_hart.specs.Ram.{Ram, may_read, may_write}
use Rattle.log_audit.specs.declared.marks.Uses.{Uses}
use Rattle.log_audit.specs.machinery.Marks.{uses_at, unused, noted, noted_at, IsClear}
use Rattle.log_audit.specs.machinery.Asking.{granted}
use Rattle.log_audit.proofs.Asking.{IsAsking, step_on}

module _ (hart : ℕ) (h : Hart) (inputs : List Input) (before : List ℕ) (contents : List (List ℕ)) (uses : List Uses) (r : Ram) (now : List Uses)
    (asking : IsAsking hart h inputs before contents uses r now) (page : ℕ) (below : page < length now)
    (touches : Contains (step_on contents h inputs).touched page) where
  -- what is clear now was clear at first
  clear_first : (want : Want) → IsClear now page hart want before → IsClear uses page hart want before
  clear_first Read clear other lt ne = let same = (asking.others page other ne).1 in let le = clear other lt ne in omega (arith, same, le)
  clear_first Write clear other lt ne =
      let (read, written) = asking.others page other ne in
      let le = clear other lt ne in
      omega (arith, read, written, le)

  module _ (want : Want) where
    after : List Uses
    after = noted_at now page hart want (h.count + 1)

    -- the page's uses, and those of the others
    at : (p : ℕ) → ((p ≡ page) × (uses_at (noted_at now page hart want (h.count + 1)) p ≡ noted hart want (h.count + 1) (uses_at now page))) ⊎
        (uses_at (noted_at now page hart want (h.count + 1)) p ≡ uses_at now p)
    at p =
        elim (same_or_not p page) [
          | inl same ↦ inl (
            same,
            ap (uses_at (noted_at now page hart want (h.count + 1))) same
                ∙ get_or-set_same now page (noted hart want (h.count + 1) (uses_at now page)) unused below,
          )
          | inr ne ↦ inr (get_or-set_other now page p (noted hart want (h.count + 1) (uses_at now page)) unused ne)
        ]

  module _ (row : length (uses_at now page).read ≡ HART_ROW) (few : hart < HART_LIMIT) (clear : IsClear now page hart Read before) where
    n : List Uses
    n = noted_at now page hart Read (h.count + 1)

    mine : slice_index (slice_set (uses_at now page).read hart (h.count + 1)) hart ≡ h.count + 1
    mine = get_or-set_same (uses_at now page).read hart (h.count + 1) 0 (omega (arith, row, few))

    others_stay : (p other : ℕ) → other ≢ hart →
        (slice_index (uses_at (noted_at now page hart Read (h.count + 1)) p).read other ≡ slice_index (uses_at now p).read other) ×
        (slice_index (uses_at (noted_at now page hart Read (h.count + 1)) p).written other ≡ slice_index (uses_at now p).written other)
    others_stay p other ne =
        elim (at Read p) [
          | inl here ↦ (
            ap (λ (u : Uses). slice_index u.read other) here.1 ∙ get_or-set_other (uses_at now page).read hart other (h.count + 1) 0 ne
                ∙ ap (λ (q : ℕ). slice_index (uses_at now q).read other) (sym here.0),
            ap (λ (u : Uses). slice_index u.written other) here.1 ∙ ap (λ (q : ℕ). slice_index (uses_at now q).written other) (sym here.0),
          )
          | inr same ↦ (ap (λ (u : Uses). slice_index u.read other) same, ap (λ (u : Uses). slice_index u.written other) same)
        ]

    written_stays : (p : ℕ) → slice_index (uses_at (noted_at now page hart Read (h.count + 1)) p).written hart ≡ slice_index (uses_at now p).written hart
    written_stays p =
        elim (at Read p) [
          | inl here ↦ ap (λ (u : Uses). slice_index u.written hart) here.1 ∙ ap (λ (q : ℕ). slice_index (uses_at now q).written hart) (sym here.0)
          | inr same ↦ ap (λ (u : Uses). slice_index u.written hart) same
        ]

    read_marked : (p : ℕ) → (p ≡ page) → slice_index (uses_at (noted_at now page hart Read (h.count + 1)) p).read hart ≡ h.count + 1
    read_marked p same =
        ap (λ (q : ℕ). slice_index (uses_at (noted_at now page hart Read (h.count + 1)) q).read hart) same
        ∙ ap (λ (u : Uses). slice_index u.read hart)
        (get_or-set_same now page (noted hart Read (h.count + 1) (uses_at now page)) unused below)
        ∙ mine

    read_stays : (p : ℕ) → p ≢ page →
        slice_index (uses_at (noted_at now page hart Read (h.count + 1)) p).read hart ≡ slice_index (uses_at now p).read hart
    read_stays p ne =
        ap (λ (u : Uses). slice_index u.read hart) (get_or-set_other now page p (noted hart Read (h.count + 1) (uses_at now page)) unused ne)

    pub asked_to_read : IsAsking hart h inputs before contents uses (granted r page Read) (noted_at now page hart Read (h.count + 1))
    asked_to_read =
        record {
          same = asking.same;
          many = length-set now page (noted hart Read (h.count + 1) (uses_at now page)) ∙ asking.many;
          rights = length-set r.readable page true ∙ asking.rights;
          rights_to_write = asking.rights_to_write;
          others = λ p other ne.
              let (read, written) = others_stay p other ne in
              let (read_first, written_first) = asking.others p other ne in
              (read ∙ read_first, written ∙ written_first);
          read = λ p.
              elim (same_or_not p page) [
                | inl same ↦ inr (
                  read_marked p same,
                  subst (λ (q : ℕ). Contains (step_on contents h inputs).touched q) (sym same) touches,
                  subst (λ (q : ℕ). IsClear uses q hart Read before) (sym same) (clear_first Read clear),
                )
                | inr ne ↦ elim (asking.read p) [
                  | inl old ↦ inl (read_stays p ne ∙ old)
                  | inr new ↦ inr (read_stays p ne ∙ new.0, new.1, new.2)
                ]
              ];
          written = λ p. elim (asking.written p) [ inl old ↦ inl (written_stays p ∙ old) | inr new ↦ inr (written_stays p ∙ new.0, new.1, new.2) ];
          may_read_marked = λ p may.
              elim (same_or_not p page) [
                | inl same ↦ inl (read_marked p same)
                | inr ne ↦
                    let before_it : may_read r p ≡ true = sym (get_or-set_other r.readable page p true false ne) ∙ may in
                    elim (asking.may_read_marked p before_it) [
                      | inl read ↦ inl (read_stays p ne ∙ read)
                      | inr written ↦ inr (written_stays p ∙ written)
                    ]
              ];
          may_write_marked = λ p may. written_stays p ∙ asking.may_write_marked p may;
        }

  module _ (row : length (uses_at now page).written ≡ HART_ROW) (few : hart < HART_LIMIT) (clear : IsClear now page hart Write before)
      (writes : Writes (step_on contents h inputs) page) where
    own : slice_index (slice_set (uses_at now page).written hart (h.count + 1)) hart ≡ h.count + 1
    own = get_or-set_same (uses_at now page).written hart (h.count + 1) 0 (omega (arith, row, few))

    others_still : (p other : ℕ) → other ≢ hart →
        (slice_index (uses_at (noted_at now page hart Write (h.count + 1)) p).read other ≡ slice_index (uses_at now p).read other) ×
        (slice_index (uses_at (noted_at now page hart Write (h.count + 1)) p).written other ≡ slice_index (uses_at now p).written other)
    others_still p other ne =
        elim (at Write p) [
          | inl here ↦ (
            ap (λ (u : Uses). slice_index u.read other) here.1 ∙ ap (λ (q : ℕ). slice_index (uses_at now q).read other) (sym here.0),
            ap (λ (u : Uses). slice_index u.written other) here.1 ∙ get_or-set_other (uses_at now page).written hart other (h.count + 1) 0 ne
                ∙ ap (λ (q : ℕ). slice_index (uses_at now q).written other) (sym here.0),
          )
          | inr same ↦ (ap (λ (u : Uses). slice_index u.read other) same, ap (λ (u : Uses). slice_index u.written other) same)
        ]

    read_still : (p : ℕ) → slice_index (uses_at (noted_at now page hart Write (h.count + 1)) p).read hart ≡ slice_index (uses_at now p).read hart
    read_still p =
        elim (at Write p) [
          | inl here ↦ ap (λ (u : Uses). slice_index u.read hart) here.1 ∙ ap (λ (q : ℕ). slice_index (uses_at now q).read hart) (sym here.0)
          | inr same ↦ ap (λ (u : Uses). slice_index u.read hart) same
        ]

    written_marked : (p : ℕ) → (p ≡ page) → slice_index (uses_at (noted_at now page hart Write (h.count + 1)) p).written hart ≡ h.count + 1
    written_marked p same =
        ap (λ (q : ℕ). slice_index (uses_at (noted_at now page hart Write (h.count + 1)) q).written hart) same
        ∙ ap (λ (u : Uses). slice_index u.written hart)
        (get_or-set_same now page (noted hart Write (h.count + 1) (uses_at now page)) unused below)
        ∙ own

    written_still : (p : ℕ) → p ≢ page →
        slice_index (uses_at (noted_at now page hart Write (h.count + 1)) p).written hart ≡ slice_index (uses_at now p).written hart
    written_still p ne =
        ap (λ (u : Uses). slice_index u.written hart) (get_or-set_other now page p (noted hart Write (h.count + 1) (uses_at now page)) unused ne)

    pub asked_to_write : IsAsking hart h inputs before contents uses (granted r page Write) (noted_at now page hart Write (h.count + 1))
    asked_to_write =
        record {
          same = asking.same;
          many = length-set now page (noted hart Write (h.count + 1) (uses_at now page)) ∙ asking.many;
          rights = length-set r.readable page true ∙ asking.rights;
          rights_to_write = length-set r.writable page true ∙ asking.rights_to_write;
          others = λ p other ne.
              let (read, written) = others_still p other ne in
              let (read_first, written_first) = asking.others p other ne in
              (read ∙ read_first, written ∙ written_first);
          read = λ p. elim (asking.read p) [ inl old ↦ inl (read_still p ∙ old) | inr new ↦ inr (read_still p ∙ new.0, new.1, new.2) ];
          written = λ p.
              elim (same_or_not p page) [
                | inl same ↦ inr (
                  written_marked p same,
                  subst (λ (q : ℕ). Writes (step_on contents h inputs) q) (sym same) writes,
                  subst (λ (q : ℕ). IsClear uses q hart Write before) (sym same) (clear_first Write clear),
                )
                | inr ne ↦ elim (asking.written p) [
                  | inl old ↦ inl (written_still p ne ∙ old)
                  | inr new ↦ inr (written_still p ne ∙ new.0, new.1, new.2)
                ]
              ];
          may_read_marked = λ p may.
              elim (same_or_not p page) [
                | inl same ↦ inr (written_marked p same)
                | inr ne ↦
                    let before_it : may_read r p ≡ true = sym (get_or-set_other r.readable page p true false ne) ∙ may in
                    elim (asking.may_read_marked p before_it) [
                      | inl read ↦ inl (read_still p ∙ read)
                      | inr written ↦ inr (written_still p ne ∙ written)
                    ]
              ];
          may_write_marked = λ p may.
              elim (same_or_not p page) [
                | inl same ↦ written_marked p same
                | inr ne ↦
                    let before_it : may_write r p ≡ true = sym (get_or-set_other r.writable page p true false ne) ∙ may in
                    written_still p ne ∙ asking.may_write_marked p before_it
              ];
        }

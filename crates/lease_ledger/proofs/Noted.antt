-- The counts at which a lease took its pages, with one more noted.
use Rattle.std.proofs.Common.{◌≡◌, ◌≢◌, ◌⊎◌, inl, inr, ℕ, is_some, unwrap_or, ◌≤◌, if◌then◌else◌, List, [], Option, Some, None, refl, sym, ap, subst, ◌∙◌}
use Rattle.std.proofs.Common.{le_refl, le_of_eq}
use Rattle.ft_types.specs.declared.names.Want.{Want}
use Rattle.ft_types.specs.declared.names.Want.TheVariants.{Read, Write}
use Rattle.interleaving.specs.Log.{Edge}
use Rattle.interleaving.proofs.Put.{same_or_not, put_same, put_other}
use Rattle.crew_pages.specs.Page.{IsAmong}
use Rattle.lease_ledger.specs.Ledger.{Stub, noted, noted_to_write, taking}
use Rattle.lease_ledger.proofs.Invariant.{StoodAt, AtFirst, ToRead, ToWrite, or_le, none_in}

module _ (counts : ℕ → Option ℕ) (page n : ℕ) where
  pub noted_same : noted counts page n page ≡ Some (unwrap_or (counts page) n)
  noted_same = put_same counts page page (Some (unwrap_or (counts page) n)) refl

  noted_other : (q : ℕ) → page ≢ q → noted counts page n q ≡ counts q
  noted_other q ne = put_other counts page q (Some (unwrap_or (counts page) n)) ne

  -- a count stays
  pub noted_keeps : (q k : ℕ) → counts q ≡ Some k → noted counts page n q ≡ Some k
  noted_keeps q k e =
      elim (same_or_not page q) [
        | inl same ↦
            subst (λ q. noted counts page n q ≡ Some k) same
            (noted_same ∙ ap (λ o. Some (unwrap_or o n)) (ap counts same ∙ e))
        | inr ne ↦ noted_other q ne ∙ e
      ]

  -- or is the new one, of a page that had none
  pub noted_cases : (q k : ℕ) → noted counts page n q ≡ Some k → (counts q ≡ Some k) ⊎ ((page ≡ q) × (n ≡ k) × (counts page ≡ None))
  noted_cases q k e =
      elim (same_or_not page q) [
        | inr ne ↦ inl (sym (noted_other q ne) ∙ e)
        | inl same ↦ go same (counts page) refl (sym noted_same ∙ (ap (noted counts page n) same ∙ e))
      ]
    where
      go : page ≡ q → (o : Option ℕ) → counts page ≡ o → Some (unwrap_or (counts page) n) ≡ Some k →
          (counts q ≡ Some k) ⊎ ((page ≡ q) × (n ≡ k) × (counts page ≡ None))
      go same (Some j) is f =
          let g : Some j ≡ Some k = sym (ap (λ o. Some (unwrap_or o n)) is) ∙ f in
          inl (ap counts (sym same) ∙ (is ∙ g))
      go same None is f =
          let g : Some n ≡ Some k = sym (ap (λ o. Some (unwrap_or o n)) is) ∙ f in
          let h : n ≡ k = cc in
          inr (same, h, is)

  pub noted_le : (c : ℕ) → c ≤ n → (q : ℕ) → unwrap_or (counts q) c ≤ unwrap_or (noted counts page n q) c
  noted_le c le q =
      elim (same_or_not page q) [
        | inl same ↦
            subst (λ q. unwrap_or (counts q) c ≤ unwrap_or (noted counts page n q) c) same
            (subst (λ o. unwrap_or (counts page) c ≤ unwrap_or o c) (sym noted_same) (or_le (counts page) c n le))
        | inr ne ↦ le_of_eq (ap (λ o. unwrap_or o c) (sym (noted_other q ne)))
      ]

  -- the same of those to write
  pub to_write_keeps : (want : Want) (q k : ℕ) → counts q ≡ Some k → noted_to_write want counts page n q ≡ Some k
  to_write_keeps Read q k e = e
  to_write_keeps Write q k e = noted_keeps q k e

  pub to_write_cases : (want : Want) (q k : ℕ) → noted_to_write want counts page n q ≡ Some k →
      (counts q ≡ Some k) ⊎ ((want ≡ Write) × (page ≡ q) × (n ≡ k) × (counts page ≡ None))
  to_write_cases Read q k e = inl e
  to_write_cases Write q k e = elim (noted_cases q k e) [ inl old ↦ inl old | inr (same, is, none) ↦ inr (refl, same, is, none) ]

  pub to_write_le : (want : Want) (c : ℕ) → c ≤ n → (q : ℕ) → unwrap_or (counts q) c ≤ unwrap_or (noted_to_write want counts page n q) c
  to_write_le Read c le q = le_refl (unwrap_or (counts q) c)
  to_write_le Write c le q = noted_le c le q

-- a page that was taken stays so
pub pending_grows : (o p : Option ℕ) (edges more : List Edge) → ((k : ℕ) → o ≡ Some k → p ≡ Some k) → IsAmong edges more →
    IsAmong (if is_some o then edges else []) (if is_some p then more else [])
pending_grows None p edges more up some e i = absurd (none_in e i)
pending_grows (Some k) p edges more up some e i =
    subst (λ p. IsAmong edges (if is_some p then more else [])) (sym (up k refl)) some e i

-- where the lease stood, it still did
pub stood_still : (settled : ℕ) (s : Stub) (page : ℕ) (want : Want) (n : ℕ) (edges : List Edge) (k : ℕ) → StoodAt settled s k →
    StoodAt settled (taking s page want n edges) k
stood_still settled s page want n edges k (AtFirst is) = AtFirst is
stood_still settled s page want n edges k (ToRead q is) = ToRead q (noted_keeps s.read_at page n q k is)
stood_still settled s page want n edges k (ToWrite q is) = ToWrite q (to_write_keeps s.write_at page n want q k is)

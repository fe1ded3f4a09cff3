-- The last fence of a file of fences.
use Rattle.std.proofs.Common.{◌≡◌, ◌⊎◌, ℕ, ◌^◌, ◌<◌, ◌≤◌, List, [], ◌∷◌, ◌++◌, Option, None, Some, length, max, refl, sym, ap, ◌∙◌, subst, inl, inr, arith}
use Rattle.std.proofs.Common.{append_assoc, length-append}
use Rattle.std.specs.Prelude.{decimal, codes, unwrap_or, ◌↔◌}
use Rattle.std.proofs.lemmas.Bool.{cases_lt}
use Rattle.std.proofs.lemmas.Fmt.{length-decimal-le}
use Rattle.ft_types.specs.Guests.{GuestParts}
use Rattle.ft_types.specs.Text.{line, word}
use Rattle.wire.specs.Fields.{HasNone, spelling}
use Rattle.wire.specs.Seals.{seal}
use Rattle.wire.specs.Values.{IsTerm}
use Rattle.wire.specs.Fences.{fence_text, SaysFence, added_fence, texts_of, NoneAbove, HasFence, IsGreatest, IsLastFence}
use Rattle.wire.proofs.Splits.{cut_none, cut_first, cut_append}
use Rattle.wire.proofs.Plain.{decimal_plain, word_plain, name_plain, no_break, break-append}
use Rattle.wire.proofs.Reading.{sealed_same, seal_length}
use Rattle.wire.proofs.Values.{number_same}

-- ---- one fence

pub fence_same : (guest : GuestParts) (text : List ℕ) (t u : ℕ) → SaysFence guest text t → SaysFence guest text u → t ≡ u
fence_same guest text t u p q =
    let texts : spelling (codes "fence" ∷ decimal t ∷ []) ≡ spelling (codes "fence" ∷ decimal u ∷ []) =
    sealed_same guest (spelling (codes "fence" ∷ decimal t ∷ [])) (spelling (codes "fence" ∷ decimal u ∷ [])) (sym p.1 ∙ q.1) in
    let digits : decimal t ≡ decimal u = cc in
    number_same t u (omega (arith, p.0.1)) (omega (arith, q.0.1)) (ap (λ (d : List ℕ). d ∷ []) digits)

fence_no_break : (guest : GuestParts) (t : ℕ) → IsTerm t → HasNone 10 (fence_text guest t)
fence_no_break guest t is =
    let front = spelling (codes "fence" ∷ decimal t ∷ []) in
    break-append front (32 ∷ word (seal guest front))
    (no_break (codes "fence" ∷ decimal t ∷ []) (name_plain (codes "fence") refl, (decimal_plain t (omega (arith, is.1)), tt)))
    ((λ e. omega arith), (word_plain (seal guest front)).1)

pub fence_short : (guest : GuestParts) (t : ℕ) → t < 2 ^ 64 → length (line (fence_text guest t)) ≤ 40
fence_short guest t small =
    let front = spelling (codes "fence" ∷ decimal t ∷ []) in
    omega (
      arith,
      length-append (fence_text guest t) (10 ∷ []),
      length-append front (32 ∷ word (seal guest front)),
      seal_length guest front,
      length-decimal-le 20 t (omega arith) (omega arith) small,
    )

-- ---- several texts

above_more : (guest : GuestParts) (last more : ℕ) (texts : List (List ℕ)) → last ≤ more → NoneAbove guest last texts → NoneAbove guest more texts
above_more guest last more [] h p = tt
above_more guest last more (text ∷ texts) h p = ((λ t s. omega (arith, p.0 t s)), above_more guest last more texts h p.1)

above-append : (guest : GuestParts) (last : ℕ) (texts others : List (List ℕ)) → NoneAbove guest last texts → NoneAbove guest last others →
    NoneAbove guest last (texts ++ others)
above-append guest last [] others p q = q
above-append guest last (text ∷ texts) others p q = (p.0, above-append guest last texts others p.1 q)

has_left : (guest : GuestParts) (t : ℕ) (texts others : List (List ℕ)) → HasFence guest t texts → HasFence guest t (texts ++ others)
has_left guest t [] others h = absurd h
has_left guest t (text ∷ texts) others (inl s) = inl s
has_left guest t (text ∷ texts) others (inr h) = inr (has_left guest t texts others h)

has_right : (guest : GuestParts) (t : ℕ) (texts others : List (List ℕ)) → HasFence guest t others → HasFence guest t (texts ++ others)
has_right guest t [] others h = h
has_right guest t (text ∷ texts) others h = inr (has_right guest t texts others h)

one_left : (guest : GuestParts) (t : ℕ) (texts others : List (List ℕ)) → (t ≡ 0) ⊎ HasFence guest t texts → (t ≡ 0) ⊎ HasFence guest t (texts ++ others)
one_left guest t texts others (inl e) = inl e
one_left guest t texts others (inr h) = inr (has_left guest t texts others h)

one_right : (guest : GuestParts) (t : ℕ) (texts others : List (List ℕ)) → (t ≡ 0) ⊎ HasFence guest t others → (t ≡ 0) ⊎ HasFence guest t (texts ++ others)
one_right guest t texts others (inl e) = inl e
one_right guest t texts others (inr h) = inr (has_right guest t texts others h)

-- of two lists it is the greater of theirs
pub greatest_append : (guest : GuestParts) (last t : ℕ) (texts others : List (List ℕ)) → IsGreatest guest last texts → IsGreatest guest t others →
    IsGreatest guest (max t last) (texts ++ others)
greatest_append guest last t texts others p q = record {
  above = above-append guest (max t last) texts others (above_more guest last (max t last) texts (omega arith) p.above)
      (above_more guest t (max t last) others (omega arith) q.above);
  one =
      elim (cases_lt last t) [
        | inl lt ↦
            let is : t ≡ max t last = omega arith in
            subst (λ (n : ℕ). (n ≡ 0) ⊎ HasFence guest n (texts ++ others)) is (one_right guest t texts others q.one)
        | inr le ↦
            let is : last ≡ max t last = omega arith in
            subst (λ (n : ℕ). (n ≡ 0) ⊎ HasFence guest n (texts ++ others)) is (one_left guest last texts others p.one)
      ];
}

pub greatest_none : (guest : GuestParts) → IsGreatest guest 0 []
greatest_none guest = record { above = tt; one = inl refl }

pub greatest_one : (guest : GuestParts) (text : List ℕ) (r : Option ℕ) → ((t : ℕ) → (r ≡ Some t) ↔ SaysFence guest text t) →
    IsGreatest guest (unwrap_or r 0) (text ∷ [])
greatest_one guest text None exact = record { above = ((λ t s. let never : ◌≡◌ {A = Option ℕ} None (Some t) = (exact t).1 s in absurd cc), tt); one = inl refl }
greatest_one guest text (Some u) exact = record {
  above = ((λ t s. let same : ◌≡◌ {A = Option ℕ} (Some u) (Some t) = (exact t).1 s in let is : u ≡ t = cc in omega arith), tt);
  one = inr (inl ((exact u).0 refl));
}

-- ---- from line to line

-- these texts were looked at, and rest is what stands behind their lines
pub record Seen (guest : GuestParts) (bytes rest : List ℕ) (last : ℕ) : Type 0 where
  pub texts : List (List ℕ)
  pub cut : texts_of bytes ≡ texts ++ texts_of rest
  pub greatest : IsGreatest guest last texts

pub seen_none : (guest : GuestParts) (bytes : List ℕ) → Seen guest bytes bytes 0
seen_none guest bytes = record { texts = []; cut = refl; greatest = greatest_none guest }

pub seen_more : (guest : GuestParts) (bytes rest text behind : List ℕ) (last t : ℕ) → HasNone 10 text → rest ≡ line text ++ behind →
    IsGreatest guest t (text ∷ []) → Seen guest bytes rest last → Seen guest bytes behind (max t last)
seen_more guest bytes rest text behind last t none is one seen = record {
  texts = seen.texts ++ text ∷ [];
  cut = seen.cut ∙ ap (λ (r : List ℕ). seen.texts ++ texts_of r) (is ∙ append_assoc text (10 ∷ []) behind)
      ∙ ap (λ (ts : List (List ℕ)). seen.texts ++ ts) (cut_first 10 text behind none) ∙ sym (append_assoc seen.texts (text ∷ []) (texts_of behind));
  greatest = greatest_append guest last t seen.texts (text ∷ []) seen.greatest one;
}

pub seen_all : (guest : GuestParts) (bytes rest : List ℕ) (last t : ℕ) → HasNone 10 rest → IsGreatest guest t (rest ∷ []) → Seen guest bytes rest last →
    IsLastFence guest bytes (max t last)
seen_all guest bytes rest last t none one seen =
    let all : seen.texts ++ rest ∷ [] ≡ texts_of bytes = sym (seen.cut ∙ ap (λ (ts : List (List ℕ)). seen.texts ++ ts) (cut_none 10 rest none)) in
    subst (λ (ts : List (List ℕ)). IsGreatest guest (max t last) ts) all (greatest_append guest last t seen.texts (rest ∷ []) seen.greatest one)

-- ---- laws

at_most : (guest : GuestParts) (t last : ℕ) (texts : List (List ℕ)) → HasFence guest t texts → NoneAbove guest last texts → t ≤ last
at_most guest t last [] h p = absurd h
at_most guest t last (text ∷ texts) (inl s) p = p.0 t s
at_most guest t last (text ∷ texts) (inr h) p = at_most guest t last texts h p.1

one_at_most : (guest : GuestParts) (t last : ℕ) (texts : List (List ℕ)) → (t ≡ 0) ⊎ HasFence guest t texts → NoneAbove guest last texts → t ≤ last
one_at_most guest t last texts (inl e) p = omega arith
one_at_most guest t last texts (inr h) p = at_most guest t last texts h p

pub one_last : (guest : GuestParts) (bytes : List ℕ) (last other : ℕ) → IsLastFence guest bytes last → IsLastFence guest bytes other → last ≡ other
one_last guest bytes last other p q =
    let below : last ≤ other = one_at_most guest last other (texts_of bytes) p.one q.above in
    let above : other ≤ last = one_at_most guest other last (texts_of bytes) q.one p.above in
    omega arith

no_fence : (guest : GuestParts) (t : ℕ) → SaysFence guest [] t → ⊥
no_fence guest t s =
    let front = spelling (codes "fence" ∷ decimal t ∷ []) in
    omega (arith, ap length s.1, length-append front (32 ∷ word (seal guest front)))

added_greatest : (guest : GuestParts) (t : ℕ) → IsTerm t → IsGreatest guest t (fence_text guest t ∷ [] ∷ [])
added_greatest guest t is = record {
  above = (
    (λ u s. let same : u ≡ t = fence_same guest (fence_text guest t) u t s (is, refl) in omega arith),
    ((λ u s. absurd (no_fence guest u s)), tt),
  );
  one = inr (inl (is, refl));
}

added_texts : (guest : GuestParts) (bytes : List ℕ) (t : ℕ) → IsTerm t →
    texts_of bytes ++ (fence_text guest t ∷ [] ∷ []) ≡ texts_of (bytes ++ added_fence guest t)
added_texts guest bytes t is = sym (cut_append 10 bytes (line (fence_text guest t))
    ∙ ap (λ (ts : List (List ℕ)). texts_of bytes ++ ts) (cut_first 10 (fence_text guest t) [] (fence_no_break guest t is)))

pub fence_added : (guest : GuestParts) (bytes : List ℕ) (last t : ℕ) → IsTerm t → IsLastFence guest bytes last →
    IsLastFence guest (bytes ++ added_fence guest t) (max t last)
fence_added guest bytes last t is p = subst (λ (ts : List (List ℕ)). IsGreatest guest (max t last) ts) (added_texts guest bytes t is)
    (greatest_append guest last t (texts_of bytes) (fence_text guest t ∷ [] ∷ []) p (added_greatest guest t is))

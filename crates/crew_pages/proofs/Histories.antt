-- Each history of a page is ordered.
use Rattle.std.proofs.Common.{◌≡◌, ◌≢◌, ◌⊎◌, inl, inr, ℕ, zero, suc, ◌+◌, ◌<◌, ◌≤◌, Bool, true, false, List, [], ◌∷◌, ◌++◌, Contains, refl, sym, ap, subst}
use Rattle.std.proofs.Common.{◌∙◌, arith, le_trans, le_refl, le_of_eq, true≢false}
use Rattle.std.proofs.lemmas.List.Elements.{Contains-append_cases, Contains-append_left, Contains-append_right}
use Rattle.ft_types.specs.declared.names.Want.{Want}
use Rattle.ft_types.specs.declared.names.TheConstants.{HART_LIMIT}
use Rattle.interleaving.specs.Lists.{EachPair}
use Rattle.interleaving.specs.Log.{Edge, Place, Before, bump}
use Rattle.interleaving.proofs.Each.{pairs_append, pairs_more}
use Rattle.interleaving.proofs.Put.{bump_le, bump_same}
use Rattle.crew_pages.specs.Rights.{holds, owns, IsFree, IsOwed}
use Rattle.crew_pages.specs.Page.{at_of, IsAmong, IsRight}
use Rattle.crew_pages.specs.Histories.{Deed, History, next, begin, asked, stepped, Reached, Begun, Asked, Elsewhere, Reads, Writes, GaveUp, Lowered, Conflict}
use Rattle.crew_pages.specs.Histories.{KeepsOrder}
use Rattle.crew_pages.proofs.Page.{before_more, owns_holds, begins_ok, right_more, give_up_ok, lower_ok, given_ok, owes_settled, right_before}

abbrev Wrote : List Deed → Place → Type 0
Wrote deeds a = Contains deeds (record { place = a; writes = true })

abbrev Touched : List Deed → Place → Type 0
Touched deeds a = (w : Bool) × Contains deeds (record { place = a; writes = w })

wrote_it : (deeds : List Deed) (d : Deed) → Contains deeds d → d.writes ≡ true → Wrote deeds d.place
wrote_it deeds d is_in writes = subst (Contains deeds) (λ i. let e : Deed = record { place = d.place; writes = writes i } in e) is_in

record IsKept (crew : ℕ) (s : History) : Type 0 where
  page : IsRight crew s.edges s.counts (λ h. s.edges) s.counts s.counts (Wrote s.deeds) (Touched s.deeds) s.right
  numbered : (d : Deed) → Contains s.deeds d → d.place.step < s.counts d.place.hart
  edges : (e : Edge) → Contains s.edges e → (e.hart < crew) × (e.step ≤ s.counts e.hart) × (e.other < crew) × (e.count ≤ s.counts e.other)
  deeds : EachPair (λ a b. Conflict a b → Before s.edges a.place b.place) s.deeds

all_in : (xs : List Edge) → IsAmong xs xs
all_in xs e is = is

reader_after : (crew : ℕ) (s : History) → IsKept crew s → (h : ℕ) → holds s.right h ≡ true → (a : Deed) → Contains s.deeds a → a.place.hart ≢ h →
    a.writes ≡ true → Before s.edges a.place (next s h)
reader_after crew s kept h held a is_in ne writes =
    right_before crew s.edges s.counts (λ h. s.edges) s.counts s.counts (Wrote s.deeds) (Touched s.deeds) s.right kept.page h held (all_in s.edges)
    a.place (next s h) refl (le_refl (s.counts h)) (le_refl (s.counts h)) ne (a.writes, is_in) (inl (wrote_it s.deeds a is_in writes))

owner_after : (crew : ℕ) (s : History) → IsKept crew s → (h : ℕ) → owns s.right h ≡ true → (a : Deed) → Contains s.deeds a → a.place.hart ≢ h →
    Before s.edges a.place (next s h)
owner_after crew s kept h owner a is_in ne =
    right_before crew s.edges s.counts (λ h. s.edges) s.counts s.counts (Wrote s.deeds) (Touched s.deeds) s.right kept.page h (owns_holds s.right h owner)
    (all_in s.edges) a.place (next s h) refl (le_refl (s.counts h)) (le_refl (s.counts h)) ne (a.writes, is_in) (inr (owner, (kept.page.owner h owner).at))

kept_begun : (crew : ℕ) (counts : ℕ → ℕ) → IsKept crew (begin counts)
kept_begun crew counts =
    record {
      page = begins_ok crew [] counts (λ h. []) counts counts (Wrote []) (Touched []) (λ a (k, below, is). omega arith) (λ a (w, (k, below, is)). omega arith);
      numbered = λ d (k, below, is). absurd (omega arith);
      edges = λ e (k, below, is). absurd (omega arith);
      deeds = tt;
    }

kept_asked : (crew : ℕ) (s : History) (h : ℕ) (want : Want) (edges : List Edge) → IsKept crew s → crew ≤ HART_LIMIT → h < crew → IsFree s.right h want →
    ((e : Edge) → IsOwed s.right h want (s.counts h) e → Contains edges e) → ((e : Edge) → Contains edges e → IsOwed s.right h want (s.counts h) e) →
    IsKept crew (asked s h want edges)
kept_asked crew s h want edges kept few below free has only =
    record {
      page =
          given_ok crew (s.edges ++ edges) s.counts (λ h. s.edges ++ edges) s.counts s.counts (Wrote s.deeds) (Touched s.deeds) few s.right h want (s.counts h)
          more below (λ _ _. le_refl (s.counts h)) (λ _. refl) free (λ e owed. Contains-append_right s.edges edges e (has e owed));
      numbered = kept.numbered;
      edges = λ e is_in. elim (Contains-append_cases s.edges edges e is_in) [ inl old ↦ kept.edges e old | inr new ↦ of_new e (only e new) ];
      deeds =
          pairs_more (λ a b. Conflict a b → Before s.edges a.place b.place) (λ a b. Conflict a b → Before (s.edges ++ edges) a.place b.place)
          (λ a b before conflict. before_more s.edges (s.edges ++ edges) old_in (before conflict)) s.deeds kept.deeds;
    }
  where
    old_in : IsAmong s.edges (s.edges ++ edges)
    old_in e is = Contains-append_left s.edges edges e is

    more : IsRight crew (s.edges ++ edges) s.counts (λ h. s.edges ++ edges) s.counts s.counts (Wrote s.deeds) (Touched s.deeds) s.right
    more =
        right_more crew s.edges s.counts (λ h. s.edges) s.counts s.counts (Wrote s.deeds) (Touched s.deeds) (s.edges ++ edges) s.counts
        (λ h. s.edges ++ edges) s.counts s.counts (Wrote s.deeds) (Touched s.deeds) s.right kept.page old_in (λ g. le_refl (s.counts g))
        (λ g held. old_in) (λ g held. le_refl (s.counts g)) (λ g held. le_refl (s.counts g)) (λ a w. inl w) (λ a t. inl t)

    of_new : (e : Edge) → IsOwed s.right h want (s.counts h) e →
        (e.hart < crew) × (e.step ≤ s.counts e.hart) × (e.other < crew) × (e.count ≤ s.counts e.other)
    of_new e owed =
        let settled =
        owes_settled crew s.edges s.counts (λ h. s.edges) s.counts s.counts (Wrote s.deeds) (Touched s.deeds) s.right kept.page h want (s.counts h) e owed in
        let own : h ≡ e.hart = sym owed.own in
        (subst (λ g. g < crew) own below, le_of_eq (owed.at ∙ ap s.counts own), settled.0, settled.1)

-- a step, whose deed is of a hart that may do it
kept_stepped : (crew : ℕ) (s : History) (h : ℕ) (new : List Deed) → IsKept crew s → EachPair (λ a b. Conflict a b → Before s.edges a.place b.place) new →
    ((d : Deed) → Contains new d → (next s h ≡ d.place) × (holds s.right h ≡ true) × (d.writes ≡ true → owns s.right h ≡ true)) →
    IsKept crew (stepped s h new)
kept_stepped crew s h new kept pairs done =
    record {
      page =
          right_more crew s.edges s.counts (λ h. s.edges) s.counts s.counts (Wrote s.deeds) (Touched s.deeds) s.edges (bump s.counts h) (λ h. s.edges)
          (bump s.counts h) (bump s.counts h) (Wrote (s.deeds ++ new)) (Touched (s.deeds ++ new)) s.right kept.page (all_in s.edges) (bump_le s.counts h)
          (λ g held. all_in s.edges) (λ g held. bump_le s.counts h g) (λ g held. bump_le s.counts h g) new_wrote new_touched;
      numbered =
          λ d is_in.
          elim (Contains-append_cases s.deeds new d is_in) [
            | inl old ↦ le_trans (kept.numbered d old) (bump_le s.counts h d.place.hart)
            | inr is_new ↦
                subst (λ p. p.step < bump s.counts h p.hart) (done d is_new).0
                (let up : bump s.counts h h ≡ s.counts h + 1 = bump_same s.counts h in omega arith)
          ];
      edges =
          λ e is_in.
          let (own, at, other, after) = kept.edges e is_in in
          (own, le_trans at (bump_le s.counts h e.hart), other, le_trans after (bump_le s.counts h e.other));
      deeds = pairs_append (λ a b. Conflict a b → Before s.edges a.place b.place) s.deeds new kept.deeds pairs across;
    }
  where
    new_wrote : (a : Place) → Wrote (s.deeds ++ new) a → Wrote s.deeds a ⊎ ((owns s.right a.hart ≡ true) × (at_of s.right ≤ a.step))
    new_wrote a is_in =
        elim (Contains-append_cases s.deeds new (record { place = a; writes = true }) is_in) [
          | inl old ↦ inl old
          | inr is_new ↦
              let (is, held, may) = done (record { place = a; writes = true }) is_new in
              let owner = may refl in
              inr (subst (λ p. (owns s.right p.hart ≡ true) × (at_of s.right ≤ p.step)) is (owner, (kept.page.owner h owner).at))
        ]

    new_touched : (a : Place) → Touched (s.deeds ++ new) a → Touched s.deeds a ⊎ (holds s.right a.hart ≡ true)
    new_touched a (w, is_in) =
        elim (Contains-append_cases s.deeds new (record { place = a; writes = w }) is_in) [
          | inl old ↦ inl (w, old)
          | inr is_new ↦
              let (is, held, may) = done (record { place = a; writes = w }) is_new in
              inr (subst (λ p. holds s.right p.hart ≡ true) is held)
        ]

    across : (a b : Deed) → Contains s.deeds a → Contains new b → Conflict a b → Before s.edges a.place b.place
    across a b is_old is_new (apart, either) =
        let (is, held, may) = done b is_new in
        let ne : a.place.hart ≢ h = λ same. apart (same ∙ ap (λ p. p.hart) is) in
        subst (Before s.edges a.place) is
        (elim either [ inl writes ↦ reader_after crew s kept h held a is_old ne writes | inr writes ↦ owner_after crew s kept h (may writes) a is_old ne ])

one_deed : (crew : ℕ) (s : History) (h : ℕ) (writes : Bool) → IsKept crew s → holds s.right h ≡ true → (writes ≡ true → owns s.right h ≡ true) →
    IsKept crew (stepped s h (record { place = next s h; writes = writes } ∷ []))
one_deed crew s h writes kept held may = kept_stepped crew s h (record { place = next s h; writes = writes } ∷ []) kept (tt, tt) done
  where
    done : (d : Deed) → Contains (record { place = next s h; writes = writes } ∷ []) d →
        (next s h ≡ d.place) × (holds s.right h ≡ true) × (d.writes ≡ true → owns s.right h ≡ true)
    done d (zero, below, is) = (ap (λ d. d.place) is, held, λ w. may (ap (λ d. d.writes) is ∙ w))
    done d (suc k, below, is) = absurd (omega arith)

numbered_place : (crew : ℕ) (s : History) → IsKept crew s → (a : Place) → Touched s.deeds a → a.step < s.counts a.hart
numbered_place crew s kept a (w, is_in) = kept.numbered (record { place = a; writes = w }) is_in

kept : (crew : ℕ) (s : History) → crew ≤ HART_LIMIT → Reached crew s → IsKept crew s
kept crew s few (Begun counts) = kept_begun crew counts
kept crew s few (Asked {s = t} h want edges before below free has only) = kept_asked crew t h want edges (kept crew t few before) few below free has only
kept crew s few (Elsewhere {s = t} h before) = kept_stepped crew t h [] (kept crew t few before) tt (λ d (k, below, is). absurd (omega arith))
kept crew s few (Reads {s = t} h before held) = one_deed crew t h false (kept crew t few before) held (λ e. absurd (true≢false (sym e)))
kept crew s few (Writes {s = t} h before owner) = one_deed crew t h true (kept crew t few before) (owns_holds t.right h owner) (λ _. owner)
kept crew s few (GaveUp {s = t} h before held) =
    let k = kept crew t few before in
    record {
      page =
          give_up_ok crew t.edges t.counts (λ h. t.edges) t.counts t.counts (Wrote t.deeds) (Touched t.deeds) (numbered_place crew t k) (λ a w. (true, w)) h
          (λ _ _ _ _ knows. knows) t.right k.page held;
      numbered = k.numbered;
      edges = k.edges;
      deeds = k.deeds;
    }
kept crew s few (Lowered {s = t} h before owner) =
    let k = kept crew t few before in
    record {
      page =
          lower_ok crew t.edges t.counts (λ h. t.edges) t.counts t.counts (Wrote t.deeds) (Touched t.deeds) (numbered_place crew t k) (λ a w. (true, w)) h
          (λ _ _ _ _ knows. knows) (le_refl (t.counts h)) t.right k.page owner;
      numbered = k.numbered;
      edges = k.edges;
      deeds = k.deeds;
    }

pub keeps_order : KeepsOrder
keeps_order crew s few is =
    let k = kept crew s few is in
    record { reader = reader_after crew s k; writer = owner_after crew s k; deeds = k.deeds; edges = k.edges }

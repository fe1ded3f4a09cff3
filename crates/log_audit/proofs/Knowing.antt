-- What the edges put before steps is known, and stays known where a hart's next step brings its edges.
use Rattle.std.proofs.Common.{◌≡◌, ◌≢◌, ◌⊎◌, inl, inr, ℕ, ◌+◌, ◌<◌, ◌≤◌, List, [], ◌∷◌, ◌++◌, length, replicate, slice_index, slice_index_or, slice_set}
use Rattle.std.proofs.Common.{refl, sym, ap, subst, ◌∙◌, arith, le_trans, le_refl, Contains, AllPairs, length-set}
use Rattle.std.proofs.lemmas.Bool.{cases_lt}
use Rattle.std.proofs.lemmas.List.{get_or-replicate, get_or_past, length-replicate}
use Rattle.std.proofs.lemmas.List.Elements.{Contains-append_cases, Contains-append_left, Contains-get_or, Contains-push}
use Rattle.std.proofs.lemmas.List.Quantifiers.{all_pairs_push}
use Rattle.interleaving.specs.Log.{Edge, Before, bump}
use Rattle.interleaving.proofs.Put.{same_or_not, put_same, bump_same, bump_other, bump_le}
use Rattle.ft_types.specs.declared.names.TheConstants.{HART_LIMIT, HART_ROW}
use Rattle.edge_log.specs.declared.Edge.{Edge as LogEdge}
use Rattle.edge_log.specs.EdgeLog.{edge_as}
use Rattle.log_audit.specs.declared.befores.Before.{Before as Entry}
use Rattle.log_audit.specs.machinery.Befores.{row_of, IsLatest, AreBrought, NoneYet, Next, Brings}
use Rattle.log_audit.specs.machinery.Covered.{IsKnown, InForce}
use Rattle.log_audit.proofs.Latest.{none_at, none_in, in_one, latest_covers, latest_is, row_at, some_or_none}
use Rattle.log_audit.proofs.Gathering.{place_at, before_later, IsGathered, gather}

-- no edge is of a step below the counts
pub known_none : (edges : List Edge) (now : ℕ → ℕ) → ((e : Edge) → Contains edges e → now e.hart ≤ e.step) →
    IsKnown edges now now (replicate HART_ROW [])
known_none edges now later = record {
  many = length-replicate {A = List Entry} HART_ROW [];
  rising = λ hart i j d less within. absurd (nowhere hart j within);
  growing = λ hart i j d less within. absurd (nowhere hart j within);
  since = λ hart b c. absurd (none_in (row_of none hart) b (empty hart) c);
  bound = λ hart b c. absurd (none_in (row_of none hart) b (empty hart) c);
  sound = λ hart b c. absurd (none_in (row_of none hart) b (empty hart) c);
  closed = λ hart b c. absurd (none_in (row_of none hart) b (empty hart) c);
  each = λ e c below. let above = later e c in absurd (omega (arith, above, below));
}
  where
    none : List (List Entry)
    none = replicate HART_ROW []

    empty : (hart : ℕ) → row_of none hart ≡ []
    empty hart = elim (cases_lt hart HART_ROW) [
      | inl lt ↦ get_or-replicate HART_ROW hart [] [] lt
      | inr ge ↦ get_or_past none hart [] ge
    ]

    nowhere : (hart j : ℕ) → j < length (row_of none hart) → ⊥
    nowhere hart j within = let no : length (row_of none hart) ≡ 0 = ap length (empty hart) in omega (arith, within, no)

-- the harts went on
pub known_later : (edges : List Edge) (reach now later : ℕ → ℕ) (rows : List (List Entry)) → IsKnown edges reach now rows →
    ((h : ℕ) → now h ≤ later h) → IsKnown edges reach later rows
known_later edges reach now later rows known more = record {
  many = known.many;
  rising = known.rising;
  growing = known.growing;
  since = known.since;
  bound = λ h b there g. le_trans (known.bound h b there g) (more g);
  sound = known.sound;
  closed = known.closed;
  each = known.each;
}

-- there are no edges of steps from what was reached to this
pub known_further : (edges : List Edge) (reach further now : ℕ → ℕ) (rows : List (List Entry)) → IsKnown edges reach now rows →
    ((h : ℕ) → reach h ≤ further h) → ((e : Edge) → Contains edges e → e.step < further e.hart → e.step < reach e.hart) →
    IsKnown edges further now rows
known_further edges reach further now rows known more none = record {
  many = known.many;
  rising = known.rising;
  growing = known.growing;
  since = λ h b there. let before = known.since h b there in let on = more h in omega (arith, before, on);
  bound = known.bound;
  sound = known.sound;
  closed = known.closed;
  each = λ e there below. known.each e there (none e there below);
}

-- ---- a hart's next step

-- a step below the counts once the hart took its next is below the counts, or that next step
reached : (now : ℕ → ℕ) (hart h n : ℕ) → n < bump now hart h → (n < now h) ⊎ ((h ≡ hart) × (n ≡ now hart))
reached now hart h n less = elim (same_or_not hart h) [
  | inl same ↦
      let is : bump now hart h ≡ now hart + 1 = put_same now hart h (now hart + 1) same in
      let here : now hart ≡ now h = ap now same in
      elim (cases_lt n (now h)) [
        | inl old ↦ inl old
        | inr new ↦ inr (sym same, omega (arith, is, here, less, new))
      ]
  | inr other ↦ let is = bump_other now hart h other in inl (omega (arith, is, less))
]

-- no edges bring nothing
nothing_brought : (rows : List (List Entry)) (own : List ℕ) (done : List LogEdge) (steps : List ℕ) → AreBrought rows own done steps → done ≡ [] → steps ≡ own
nothing_brought rows own done steps NoneYet none = refl
nothing_brought rows own done steps (Next {edges = before} e all brought one) none =
    absurd (none_in (before ++ e ∷ []) e none (Contains-push before e))

module _ (edges : List Edge) (now : ℕ → ℕ) (rows : List (List Entry)) (known : IsKnown edges now now rows)
    (wide : (h : ℕ) (b : Entry) → Contains (row_of rows h) b → length b.steps ≡ HART_ROW) (hart : ℕ) (within : hart < HART_LIMIT) (own : List ℕ)
    (latest : IsLatest (row_of rows hart) (now hart) own) where
  -- what the entries have is in what is latest
  own_covers : (b : Entry) → Contains (row_of rows hart) b → (g : ℕ) → slice_index b.steps g ≤ slice_index own g
  own_covers b there =
      let before = known.since hart b there in
      latest_covers (row_of rows hart) (now hart) own (known.growing hart) latest b there (omega (arith, before))

  -- a step that has no edges
  known_still : ((e : Edge) → Contains edges e → e.hart ≡ hart → e.step ≡ now hart → ⊥) → IsKnown edges (bump now hart) now rows
  known_still none =
      known_further edges now (bump now hart) now rows known (bump_le now hart)
      (λ e there below.
      elim (reached now hart e.hart e.step below) [
        | inl old ↦ old
        | inr new ↦ absurd (none e there new.0 new.1)
      ])

  own_in_force : InForce rows hart own
  own_in_force = record {
    all = own_covers;
    some = λ g.
        elim (latest_is (row_of rows hart) (now hart) own latest) [
          | inl none ↦ inl (ap (λ (all : List ℕ). slice_index all g) none ∙ none_at g)
          | inr entry ↦
              let (b, there, early, is) = entry in
              inr (b, there, subst (λ (all : List ℕ). slice_index own g ≤ slice_index all g) is (le_refl (slice_index own g)))
        ];
  }

  module _ (here : List LogEdge) (steps : List ℕ) (got : IsGathered edges now rows known wide hart own latest here steps)
      (each : (e : Edge) → Contains edges e → e.hart ≡ hart → e.step ≡ now hart → (x : LogEdge) × Contains here x × (edge_as x ≡ e)) where
    abbrev entry : Entry
    entry = record { since = now hart; steps = steps }

    abbrev row : List Entry
    row = row_of rows hart ++ entry ∷ []

    abbrev grown : List (List Entry)
    grown = slice_set rows hart row

    at : (h : ℕ) → ((h ≡ hart) × (row_of grown h ≡ row)) ⊎ ((h ≢ hart) × (row_of grown h ≡ row_of rows h))
    at h = let many = known.many in row_at rows hart h row (omega (arith, many, within))

    here_is : row_of grown hart ≡ row
    here_is = elim (at hart) [ inl same ↦ same.1 | inr other ↦ absurd (other.0 refl) ]

    entry_in : Contains (row_of grown hart) entry
    entry_in = subst (λ (r : List Entry). Contains r entry) (sym here_is) (Contains-push (row_of rows hart) entry)

    old_in : (h : ℕ) (b : Entry) → Contains (row_of rows h) b → Contains (row_of grown h) b
    old_in h b there = elim (at h) [
      | inl same ↦
          subst (λ (r : List Entry). Contains r b) (sym same.1)
          (Contains-append_left (row_of rows hart) (entry ∷ []) b (subst (λ (i : ℕ). Contains (row_of rows i) b) same.0 there))
      | inr other ↦ subst (λ (r : List Entry). Contains r b) (sym other.1) there
    ]

    in_grown : (h : ℕ) (b : Entry) → Contains (row_of grown h) b → Contains (row_of rows h) b ⊎ ((h ≡ hart) × (b ≡ entry))
    in_grown h b there = elim (at h) [
      | inl same ↦
          elim (Contains-append_cases (row_of rows hart) (entry ∷ []) b (subst (λ (r : List Entry). Contains r b) same.1 there)) [
            | inl old ↦ inl (subst (λ (i : ℕ). Contains (row_of rows i) b) (sym same.0) old)
            | inr new ↦ inr (same.0, in_one b entry new)
          ]
      | inr other ↦ inl (subst (λ (r : List Entry). Contains r b) other.1 there)
    ]

    -- what holds of the entries and of the new one
    by_entry : (P : ℕ → Entry → Type 0) → ((h : ℕ) (b : Entry) → Contains (row_of rows h) b → P h b) → P hart entry → (h : ℕ) (b : Entry) →
        Contains (row_of grown h) b → P h b
    by_entry P old new h b there = elim (in_grown h b there) [
      | inl before ↦ old h b before
      | inr now_is ↦ subst (λ (i : ℕ). P i b) (sym now_is.0) (subst (λ (x : Entry). P hart x) (sym now_is.1) new)
    ]

    -- what is closed without the new entry is closed with it
    closed_still : (all : List ℕ) → ((g : ℕ) → slice_index all g ≤ now g) →
        ((other x : ℕ) → x < slice_index all other → (a : Entry) → Contains (row_of rows other) a → a.since ≤ x → (g : ℕ) →
        slice_index a.steps g ≤ slice_index all g) →
        (other x : ℕ) → x < slice_index all other → (a : Entry) → Contains (row_of grown other) a → a.since ≤ x → (g : ℕ) →
        slice_index a.steps g ≤ slice_index all g
    closed_still all bound closed other x less a there early g = elim (in_grown other a there) [
      | inl old ↦ closed other x less a old early g
      | inr new ↦
          let since : a.since ≡ now hart = ap (λ (b : Entry). b.since) new.1 in
          let same : now other ≡ now hart = ap now new.0 in
          let le = bound other in absurd (omega (arith, since, same, le, less, early))
    ]

    -- what holds of the pairs, and of each entry and the new one
    pairs : (R : Entry → Entry → Type 0) → ((h : ℕ) → AllPairs R (row_of rows h)) → ((b : Entry) → Contains (row_of rows hart) b → R b entry) →
        (h : ℕ) → AllPairs R (row_of grown h)
    pairs R old new h = elim (at h) [
      | inl same ↦
          subst (λ (r : List Entry). AllPairs R r) (sym same.1)
          (all_pairs_push R (row_of rows hart) entry (old hart)
          (λ k d lt. new (slice_index_or (row_of rows hart) k d) (Contains-get_or (row_of rows hart) k d lt)))
      | inr other ↦ subst (λ (r : List Entry). AllPairs R r) (sym other.1) (old h)
    ]

    grows : (b : Entry) → Contains (row_of rows hart) b → (g : ℕ) → slice_index b.steps g ≤ slice_index steps g
    grows b there g = le_trans (own_covers b there g) (got.own g)

    got_sound : (g x : ℕ) → x < slice_index steps g → Before edges (place_at g x) (place_at hart (now hart))
    got_sound g x less = let (n, early, before) = got.past.sound g x less in before_later edges (place_at g x) hart n (now hart) early before

    known_on : IsKnown edges (bump now hart) now grown
    known_on = record {
      many = length-set rows hart row ∙ known.many;
      rising = pairs (λ a b. a.since ≤ b.since) known.rising (λ b there. let before = known.since hart b there in omega (arith, before));
      growing = pairs (λ a b. (g : ℕ) → slice_index a.steps g ≤ slice_index b.steps g) known.growing grows;
      since =
          by_entry (λ h b. b.since < bump now hart h)
          (λ h b there. let before = known.since h b there in let more = bump_le now hart h in omega (arith, before, more))
          (let more = bump_same now hart in omega (arith, more));
      bound = by_entry (λ h b. (g : ℕ) → slice_index b.steps g ≤ now g) known.bound got.past.bound;
      sound =
          by_entry (λ h b. (g x : ℕ) → x < slice_index b.steps g → Before edges (place_at g x) (place_at h b.since)) known.sound got_sound;
      closed =
          by_entry
          (λ h b. (other x : ℕ) → x < slice_index b.steps other → (a : Entry) → Contains (row_of grown other) a → a.since ≤ x → (g : ℕ) →
          slice_index a.steps g ≤ slice_index b.steps g)
          (λ h b there. closed_still b.steps (known.bound h b there) (known.closed h b there))
          (closed_still steps got.past.bound got.past.closed);
      each = λ e there below.
          elim (reached now hart e.hart e.step below) [
            | inl old ↦ (let (b, b_there, early, many) = known.each e there old in (b, old_in e.hart b b_there, early, many))
            | inr new ↦
                let (x, x_there, is) = each e there new.0 new.1 in
                let at_step = new.1 in (
                  entry,
                  subst (λ (h : ℕ). Contains (row_of grown h) entry) (sym new.0) entry_in,
                  omega (arith, at_step),
                  subst (λ (y : Edge). y.count ≤ slice_index steps y.other) is (got.named x x_there),
                )
          ];
    }

    now_in_force : InForce grown hart steps
    now_in_force = record {
      all = λ b there.
          elim (in_grown hart b there) [
            | inl old ↦ grows b old
            | inr new ↦ λ g. subst (λ (x : Entry). slice_index x.steps g ≤ slice_index steps g) (sym new.1) (le_refl (slice_index steps g))
          ];
      some = λ g. inr (entry, entry_in, le_refl (slice_index steps g));
    }

-- a hart's next step, whose edges are met, brings its edges: what the edges up to it put before steps is known, and what comes before
-- it is in force
pub known_brought : (edges : List Edge) (now : ℕ → ℕ) (rows : List (List Entry)) (hart : ℕ) (here : List LogEdge) (steps : List ℕ)
    (new : List (List Entry)) →
    IsKnown edges now now rows → ((h : ℕ) (b : Entry) → Contains (row_of rows h) b → length b.steps ≡ HART_ROW) → hart < HART_LIMIT →
    Brings rows hart (now hart) here steps new →
    ((e : Edge) → Contains edges e → e.hart ≡ hart → e.step ≡ now hart → (x : LogEdge) × Contains here x × (edge_as x ≡ e)) →
    ((x : LogEdge) → Contains here x → Contains edges (edge_as x) × (x.hart ≡ hart) × (x.at ≡ now hart) × (x.other < HART_LIMIT)) →
    ((x : LogEdge) → Contains here x → x.after ≤ now x.other) → IsKnown edges (bump now hart) now new × InForce new hart steps
known_brought edges now rows hart here steps new known wide within brings each own met = elim (some_or_none here) [
  | inl none ↦
      (let same : steps ≡ brings.own = nothing_brought rows brings.own here steps brings.brought none in
      let still : IsKnown edges (bump now hart) now rows =
      known_still edges now rows known wide hart within brings.own brings.latest
      (λ e there of_hart at. let (x, x_there, is) = each e there of_hart at in none_in here x none x_there) in
      let force : InForce rows hart steps =
      subst (λ (s : List ℕ). InForce rows hart s) (sym same) (own_in_force edges now rows known wide hart within brings.own brings.latest) in (
        subst (λ (r : List (List Entry)). IsKnown edges (bump now hart) now r) (sym (brings.none none)) still,
        subst (λ (r : List (List Entry)). InForce r hart steps) (sym (brings.none none)) force,
      ))
  | inr some ↦
      (let got : IsGathered edges now rows known wide hart brings.own brings.latest here steps =
      gather edges now rows known wide hart brings.own brings.latest here steps brings.brought
      (λ e there.
      let (in_edges, of_hart, at, other) = own e there in
      record { there = in_edges; of_hart = of_hart; at = at; other = other; met = met e there }) in (
        subst (λ (r : List (List Entry)). IsKnown edges (bump now hart) now r) (sym (brings.some some))
            (known_on edges now rows known wide hart within brings.own brings.latest here steps got each),
        subst (λ (r : List (List Entry)). InForce r hart steps) (sym (brings.some some))
            (now_in_force edges now rows known wide hart within brings.own brings.latest here steps got each),
      ))
]

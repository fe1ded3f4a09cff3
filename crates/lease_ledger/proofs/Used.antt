-- The places of the steps that used a page.
use Rattle.std.proofs.Common.{◌≡◌, ◌⊎◌, inl, inr, ℕ, ◌==◌, ◌<◌, Bool, true, false, cond, List, [], ◌∷◌, ◌++◌, map, filter, Option, Some, None, MatchOption}
use Rattle.std.proofs.Common.{Contains, refl, sym, ap, subst, ◌∙◌, arith, eq-eqb, eqb-true, true≢false}
use Rattle.std.proofs.lemmas.List.Elements.{Contains-append_cases, Contains-append_right}
use Rattle.interleaving.specs.Machine.{Write, Writes, System, Machine, Turn, Step, counts, steps, Runs, run}
use Rattle.interleaving.specs.Log.{Place, place}
use Rattle.interleaving.specs.Recorder.{is_write, has}
use Rattle.interleaving.proofs.Cuts.{here_or_later, here}
use Rattle.interleaving.proofs.Each.{each_at}
use Rattle.lease_ledger.proofs.Runs.{steps_numbered, steps_within}

-- the images of the elements that a test chooses
module _ {A B : Type 0} (f : A → B) (test : A → Bool) where
  pub record IsImage (xs : List A) (y : B) : Type 0 where
    pub x : A
    pub is_in : Contains xs x
    pub passes : test x ≡ true
    pub is : f x ≡ y

  image_later : (x : A) (xs : List A) (y : B) → IsImage xs y → IsImage (x ∷ xs) y
  image_later x xs y i = record { x = i.x; is_in = Contains-append_right (x ∷ []) xs i.x i.is_in; passes = i.passes; is = i.is }

  pub image_of : (xs : List A) (y : B) → Contains (map f (filter test xs)) y → IsImage xs y
  image_of [] y (k, below, is) = absurd (omega arith)
  image_of (x ∷ xs) y h = go (test x) refl (λ later. image_later x xs y (image_of xs y later)) h
    where
      go : (b : Bool) → test x ≡ b → (Contains (map f (filter test xs)) y → IsImage (x ∷ xs) y) →
          Contains (map f (cond b (x ∷ filter test xs) (filter test xs))) y → IsImage (x ∷ xs) y
      go false e rec h = rec h
      go true e rec h =
          elim (here_or_later (f x) (map f (filter test xs)) y h) [
            | inl is ↦ record { x = x; is_in = here x xs; passes = e; is = is }
            | inr later ↦ rec later
          ]

  pub has_image : (xs : List A) (x : A) → Contains xs x → test x ≡ true → Contains (map f (filter test xs)) (f x)
  has_image [] x (k, below, is) e = absurd (omega arith)
  has_image (z ∷ xs) x h e = go (test z) refl (λ later. has_image xs x later e) (here_or_later z xs x h)
    where
      go : (b : Bool) → test z ≡ b → (Contains xs x → Contains (map f (filter test xs)) (f x)) → (z ≡ x) ⊎ Contains xs x →
          Contains (map f (cond b (z ∷ filter test xs) (filter test xs))) (f x)
      go true e₁ rec (inl same) = subst (λ x. Contains (f z ∷ map f (filter test xs)) (f x)) same (here (f z) (map f (filter test xs)))
      go false e₁ rec (inl same) = absurd (true≢false (sym e ∙ (ap test (sym same) ∙ e₁)))
      go true e₁ rec (inr later) = Contains-append_right (f z ∷ []) (map f (filter test xs)) (f x) (rec later)
      go false e₁ rec (inr later) = rec later

writes_true : {Page : Type 0} (w : Option (Write Page)) (page : ℕ) → MatchOption w ⊥ (λ w. w.page ≡ page) → is_write w page ≡ true
writes_true None page h = absurd h
writes_true (Some w) page h = eq-eqb w.page page h

true_writes : {Page : Type 0} (w : Option (Write Page)) (page : ℕ) → is_write w page ≡ true → MatchOption w ⊥ (λ w. w.page ≡ page)
true_writes None page h = true≢false (sym h)
true_writes (Some w) page h = eqb-true w.page page h

has_true : (xs : List ℕ) (page : ℕ) → Contains xs page → has xs page ≡ true
has_true [] page (k, below, is) = absurd (omega arith)
has_true (x ∷ xs) page h =
    elim (here_or_later x xs page h) [
      | inl is ↦ rw (eq-eqb x page is) refl
      | inr later ↦ elim (x == page) as (λ b. cond b true (has xs page) ≡ true) [ true ↦ refl | false ↦ has_true xs page later ]
    ]

true_has : (xs : List ℕ) (page : ℕ) → has xs page ≡ true → Contains xs page
true_has [] page h = absurd (true≢false (sym h))
true_has (x ∷ xs) page h = go (x == page) refl (λ later. true_has xs page later) h
  where
    go : (b : Bool) → (x == page) ≡ b → (has xs page ≡ true → Contains xs page) → cond b true (has xs page) ≡ true → Contains (x ∷ xs) page
    go true e rec h = subst (Contains (x ∷ xs)) (eqb-true x page e) (here x xs)
    go false e rec h = Contains-append_right (x ∷ []) xs page (rec h)

module _ {Hart Page Input : Type 0} (system : System Hart Page Input) where
  abbrev pub wrote_in : List (Step Hart Page Input) → ℕ → List Place
  wrote_in past page = map (place system) (filter (λ s. is_write s.effect.write page) past)

  abbrev pub touched_in : List (Step Hart Page Input) → ℕ → List Place
  touched_in past page = map (place system) (filter (λ s. has s.effect.touched page) past)

  -- a step of these did it, at this place
  pub record IsPlaceOf (Does : Step Hart Page Input → Type 0) (past : List (Step Hart Page Input)) (a : Place) : Type 0 where
    pub step : Step Hart Page Input
    pub is_past : Contains past step
    pub does : Does step
    pub is : place system step ≡ a

  pub who_wrote : (past : List (Step Hart Page Input)) (page : ℕ) (a : Place) → Contains (wrote_in past page) a →
      IsPlaceOf (λ s. Writes s.effect page) past a
  who_wrote past page a h =
      let i = image_of (place system) (λ s. is_write s.effect.write page) past a h in
      record { step = i.x; is_past = i.is_in; does = true_writes i.x.effect.write page i.passes; is = i.is }

  pub who_touched : (past : List (Step Hart Page Input)) (page : ℕ) (a : Place) → Contains (touched_in past page) a →
      IsPlaceOf (λ s. Contains s.effect.touched page) past a
  who_touched past page a h =
      let i = image_of (place system) (λ s. has s.effect.touched page) past a h in
      record { step = i.x; is_past = i.is_in; does = true_has i.x.effect.touched page i.passes; is = i.is }

  pub in_wrote : (past : List (Step Hart Page Input)) (page : ℕ) (s : Step Hart Page Input) → Contains past s → Writes s.effect page →
      Contains (wrote_in past page) (place system s)
  in_wrote past page s h w = has_image (place system) (λ s. is_write s.effect.write page) past s h (writes_true s.effect.write page w)

  pub in_touched : (past : List (Step Hart Page Input)) (page : ℕ) (s : Step Hart Page Input) → Contains past s → Contains s.effect.touched page →
      Contains (touched_in past page) (place system s)
  in_touched past page s h t = has_image (place system) (λ s. has s.effect.touched page) past s h (has_true s.effect.touched page t)

  -- the places of later steps are those of these steps and of the rest
  pub wrote_more : (past new : List (Step Hart Page Input)) (page : ℕ) (a : Place) → Contains (wrote_in (past ++ new) page) a →
      Contains (wrote_in past page) a ⊎ IsPlaceOf (λ s. Writes s.effect page) new a
  wrote_more past new page a h =
      let w = who_wrote (past ++ new) page a h in
      elim (Contains-append_cases past new w.step w.is_past) [
        | inl old ↦ inl (subst (Contains (wrote_in past page)) w.is (in_wrote past page w.step old w.does))
        | inr is_new ↦ inr (record { step = w.step; is_past = is_new; does = w.does; is = w.is })
      ]

  pub touched_more : (past new : List (Step Hart Page Input)) (page : ℕ) (a : Place) → Contains (touched_in (past ++ new) page) a →
      Contains (touched_in past page) a ⊎ IsPlaceOf (λ s. Contains s.effect.touched page) new a
  touched_more past new page a h =
      let t = who_touched (past ++ new) page a h in
      elim (Contains-append_cases past new t.step t.is_past) [
        | inl old ↦ inl (subst (Contains (touched_in past page)) t.is (in_touched past page t.step old t.does))
        | inr is_new ↦ inr (record { step = t.step; is_past = is_new; does = t.does; is = t.is })
      ]

  -- each place is one of its hart's steps so far, and what was written was touched
  pub numbered : (start m : Machine Hart Page) (turns : List (Turn Input)) → Runs system start turns → m ≡ run system start turns →
      (page : ℕ) (a : Place) → Contains (touched_in (steps system start turns) page) a → a.step < counts system m a.hart
  numbered start m turns runs is page a h =
      let t = who_touched (steps system start turns) page a h in
      subst (λ a. a.step < counts system m a.hart) t.is
      (subst (λ m. system.count t.step.found < counts system m t.step.hart) (sym is) (steps_numbered system start turns runs t.step t.is_past).below)

  pub within : (start : Machine Hart Page) (turns : List (Turn Input)) → Runs system start turns → (page : ℕ) (a : Place) →
      Contains (wrote_in (steps system start turns) page) a → Contains (touched_in (steps system start turns) page) a
  within start turns runs page a h =
      let w = who_wrote (steps system start turns) page a h in
      subst (Contains (touched_in (steps system start turns) page)) w.is
      (in_touched (steps system start turns) page w.step w.is_past
      (each_at (λ s. (page : ℕ) → Writes s.effect page → Contains s.effect.touched page) (steps system start turns) w.step
      (steps_within system start turns runs) w.is_past page w.does))

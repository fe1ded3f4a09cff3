-- What an asker meets, once the harts in its way have yielded one after another.
use Rattle.std.proofs.Common.{◌≡◌, ◌≢◌, ◌==◌, ◌&&◌, not, ℕ, zero, suc, ◌<◌, ◌≤◌, ◌⊎◌, inl, inr, Bool, true, false, Option, Some, if◌then◌else◌, nat_lt, refl}
use Rattle.std.proofs.Common.{sym, ap, subst, ◌∙◌, arith, true≢false, eq-eqb, ne_eqb}
use Rattle.std.proofs.Math.Path.{fun_ext}
use Rattle.std.proofs.lemmas.Bool.{cases_eq, cases_lt}
use Rattle.ft_types.specs.declared.names.TheConstants.{HART_LIMIT}
use Rattle.interleaving.specs.Lists.{put}
use Rattle.interleaving.proofs.Put.{same_or_not, put_same, put_other}
use Rattle.ft_types.specs.declared.names.Want.{Want}
use Rattle.ft_types.specs.declared.names.Want.TheVariants.{Read, Write}
use Rattle.crew_pages.specs.declared.right.LastWriter.{LastWriter}
use Rattle.crew_pages.specs.Rights.{Right, Shared, Exclusive, holds, stands, give_up, nobody}
use Rattle.lease_ledger.proofs.Stays.{stands_holds}
use Rattle.hart_lease.specs.declared.asked.Asked.{Asked}
use Rattle.book_modes.specs.machinery.Yielding.{yields, yielded}
use Rattle.book_modes.specs.Recordings.{RecordingView, right_at, right_yielded, right_met}

and_false : (b : Bool) → (b && false) ≡ false
and_false true = refl
and_false false = refl

and_true : (b : Bool) → (b && true) ≡ b
and_true true = refl
and_true false = refl

module _ (asked : Asked) (settled : ℕ → ℕ) where
  abbrev in_way : Right → ℕ → Bool
  in_way right other = stands right asked.hart asked.want other

  -- ---- readers

  stands_as : (since : Option LastWriter) (readers now : ℕ → Bool) (left after : ℕ → Option ℕ) (want : Want) (n : ℕ) → now n ≡ readers n →
      stands (Shared since now after) asked.hart want n ≡ stands (Shared since readers left) asked.hart want n
  stands_as since readers now left after Read n same = refl
  stands_as since readers now left after Write n same = ap (λ (b : Bool). not (asked.hart == n) && b) same

  module _ (since : Option LastWriter) (readers : ℕ → Bool) (left : ℕ → Option ℕ) where
    abbrev shared : Right
    shared = Shared since readers left

    -- the first n have yielded
    record IsUpTo (n : ℕ) (right : Right) : Type 0 where
      now : ℕ → Bool
      after : ℕ → Option ℕ
      is : right ≡ Shared since now after
      gone : (other : ℕ) → other < n → in_way shared other ≡ true → (now other ≡ false) × (after other ≡ Some (settled other))
      stays : (other : ℕ) → (n ≤ other) ⊎ (in_way shared other ≡ false) → (now other ≡ readers other) × (after other ≡ left other)

    lower : (n other : ℕ) → other < suc n → n ≢ other → other < n
    lower n other below ne = elim (cases_lt other n) [ inl lt ↦ lt | inr ge ↦ absurd (ne (omega (arith, below, ge))) ]

    outside : (n other : ℕ) → in_way shared n ≡ true → (suc n ≤ other) ⊎ (in_way shared other ≡ false) → n ≢ other
    outside n other here (inl le) e = omega (arith, le, e)
    outside n other here (inr clear) e = true≢false (sym here ∙ ap (in_way shared) e ∙ clear)

    further : (n other : ℕ) → (suc n ≤ other) ⊎ (in_way shared other ≡ false) → (n ≤ other) ⊎ (in_way shared other ≡ false)
    further n other (inl le) = inl (omega (arith, le))
    further n other (inr clear) = inr clear

    one_more : (n : ℕ) (right : Right) → IsUpTo n right → IsUpTo (suc n) (yields asked settled n right)
    one_more n right p = subst (λ (x : Right). IsUpTo (suc n) (yields asked settled n x)) (sym p.is) (of (in_way shared n) refl)
      where
        same : stands (Shared since p.now p.after) asked.hart asked.want n ≡ in_way shared n
        same = stands_as since readers p.now left p.after asked.want n (p.stays n (inl (omega arith))).0

        of : (b : Bool) → in_way shared n ≡ b → IsUpTo (suc n) (yields asked settled n (Shared since p.now p.after))
        of true here =
            subst
            (λ (b : Bool). IsUpTo (suc n) (if b then give_up (Shared since p.now p.after) n (settled n) else Shared since p.now p.after))
            (sym (same ∙ here))
            (record {
              now = put p.now n false;
              after = put p.after n (Some (settled n));
              is = refl;
              gone = λ other below way.
                  elim (same_or_not n other) [
                    | inl own ↦ (put_same p.now n other false own, put_same p.after n other (Some (settled n)) own ∙ ap (λ (k : ℕ). Some (settled k)) own)
                    | inr ne ↦
                        let old = p.gone other (lower n other below ne) way in
                        (put_other p.now n other false ne ∙ old.0, put_other p.after n other (Some (settled n)) ne ∙ old.1)
                  ];
              stays = λ other out.
                  let ne : n ≢ other = outside n other here out in
                  let old = p.stays other (further n other out) in
                  (put_other p.now n other false ne ∙ old.0, put_other p.after n other (Some (settled n)) ne ∙ old.1);
            })
        of false here =
            subst
            (λ (b : Bool). IsUpTo (suc n) (if b then give_up (Shared since p.now p.after) n (settled n) else Shared since p.now p.after))
            (sym (same ∙ here))
            (record {
              now = p.now;
              after = p.after;
              is = refl;
              gone = λ other below way.
                  elim (same_or_not n other) [
                    | inl own ↦ absurd (true≢false (sym way ∙ ap (in_way shared) (sym own) ∙ here))
                    | inr ne ↦ p.gone other (lower n other below ne) way
                  ];
              stays = λ other out. p.stays other (further n other out);
            })

    up_to : (n : ℕ) → IsUpTo n (yielded asked settled n shared)
    up_to zero =
        record { now = readers; after = left; is = refl; gone = λ other below way. absurd (omega (arith, below)); stays = λ other out. (refl, refl) }
    up_to (suc n) = one_more n (yielded asked settled n shared) (up_to n)

    shared_is : ((other : ℕ) → holds shared other ≡ true → other < HART_LIMIT) → yielded asked settled HART_LIMIT shared ≡ right_yielded asked settled shared
    shared_is few = p.is ∙ (λ i. Shared since (all_now i) (all_after i))
      where
        p : IsUpTo HART_LIMIT (yielded asked settled HART_LIMIT shared)
        p = up_to HART_LIMIT

        now_is : (other : ℕ) → p.now other ≡ (readers other && not (in_way shared other))
        now_is other = of (in_way shared other) refl
          where
            of : (b : Bool) → in_way shared other ≡ b → p.now other ≡ (readers other && not b)
            of true way = (p.gone other (few other (stands_holds shared asked.hart asked.want other way)) way).0 ∙ sym (and_false (readers other))
            of false clear = (p.stays other (inr clear)).0 ∙ sym (and_true (readers other))

        after_is : (other : ℕ) → p.after other ≡ (if in_way shared other then Some (settled other) else left other)
        after_is other = of (in_way shared other) refl
          where
            of : (b : Bool) → in_way shared other ≡ b → p.after other ≡ (if b then Some (settled other) else left other)
            of true way = (p.gone other (few other (stands_holds shared asked.hart asked.want other way)) way).1
            of false clear = (p.stays other (inr clear)).1

        all_now : p.now ≡ (λ other. readers other && not (in_way shared other))
        all_now = fun_ext now_is

        all_after : p.after ≡ (λ other. if in_way shared other then Some (settled other) else left other)
        all_after = fun_ext after_is

  -- ---- an owner

  module _ (owner at : ℕ) (since : Option LastWriter) (left : ℕ → Option ℕ) where
    abbrev owned : Right
    owned = Exclusive owner at since left

    abbrev without_owner : Right
    without_owner = give_up owned owner (settled owner)

    nobody_left : (n : ℕ) → in_way without_owner n ≡ false
    nobody_left n = of (nat_lt at (settled owner)) asked.want
      where
        of : (b : Bool) (want : Want) →
            stands
            (if b
            then Shared (Some (record { hart = owner; count = settled owner })) (λ other. false) nobody
            else Shared since (λ other. false) (put left owner (Some (settled owner)))) asked.hart want n ≡ false
        of true Read = and_false (not (asked.hart == n))
        of true Write = and_false (not (asked.hart == n))
        of false Read = and_false (not (asked.hart == n))
        of false Write = and_false (not (asked.hart == n))

    -- the owner has yielded, where it stands in the way and is among the first n
    abbrev HasYielded : ℕ → Right → Type 0
    HasYielded n right = ((right ≡ owned) × (owner < n → in_way owned owner ≡ false)) ⊎ ((right ≡ without_owner) × (in_way owned owner ≡ true))

    owner_only : (n : ℕ) → owner ≢ n → in_way owned n ≡ false
    owner_only n ne = ap (λ (b : Bool). not (asked.hart == n) && b) (ne_eqb owner n ne) ∙ and_false (not (asked.hart == n))

    next_yields : (n : ℕ) (right : Right) → HasYielded n right → HasYielded (suc n) (yields asked settled n right)
    next_yields n right (inr p) =
        inr (
          ap (yields asked settled n) p.0 ∙ ap (λ (b : Bool). if b then give_up without_owner n (settled n) else without_owner) (nobody_left n),
          p.1,
        )
    next_yields n right (inl p) = subst (λ (x : Right). HasYielded (suc n) (yields asked settled n x)) (sym p.0) (of (in_way owned n) refl)
      where
        as_before : (b : Bool) → in_way owned n ≡ b → yields asked settled n owned ≡ (if b then give_up owned n (settled n) else owned)
        as_before b is = ap (λ (b : Bool). if b then give_up owned n (settled n) else owned) is

        of : (b : Bool) → in_way owned n ≡ b → HasYielded (suc n) (yields asked settled n owned)
        of true way = elim (cases_eq owner n) [
          | inl own ↦ inr (
            as_before true way ∙ ap (λ (k : ℕ). give_up owned k (settled k)) (sym own),
            ap (in_way owned) own ∙ way,
          )
          | inr ne ↦ absurd (true≢false (sym way ∙ owner_only n ne))
        ]
        of false clear = inl (
          as_before false clear,
          λ below.
              elim (cases_eq owner n) [
                | inl own ↦ ap (in_way owned) own ∙ clear
                | inr ne ↦ p.1 (elim (cases_lt owner n) [ inl lt ↦ lt | inr ge ↦ absurd (ne (omega (arith, below, ge))) ])
              ],
        )

    owner_yields : (n : ℕ) → HasYielded n (yielded asked settled n owned)
    owner_yields zero = inl (refl, λ below. absurd (omega (arith, below)))
    owner_yields (suc n) = next_yields n (yielded asked settled n owned) (owner_yields n)

    owned_is : ((other : ℕ) → holds owned other ≡ true → other < HART_LIMIT) → yielded asked settled HART_LIMIT owned ≡ right_yielded asked settled owned
    owned_is few = elim (owner_yields HART_LIMIT) [
      | inl p ↦
          p.0 ∙ sym (ap (λ (b : Bool). if b then without_owner else owned) (p.1 (few owner (eq-eqb owner owner refl))))
      | inr p ↦ p.0 ∙ sym (ap (λ (b : Bool). if b then without_owner else owned) p.1)
    ]

  pub yielded_is : (right : Right) → ((other : ℕ) → holds right other ≡ true → other < HART_LIMIT) → yielded asked settled HART_LIMIT right ≡ right_yielded asked settled right
  yielded_is (Shared since readers left) few = shared_is since readers left few
  yielded_is (Exclusive owner at since left) few = owned_is owner at since left few

pub met_is : (r : RecordingView) (settled : ℕ → ℕ) (asked : Asked) → ((other : ℕ) → holds (right_at r.rights asked.page) other ≡ true → other < HART_LIMIT) →
    right_met r settled asked ≡ yielded asked settled HART_LIMIT (right_at r.rights asked.page)
unfolding right_met
met_is r settled asked few = sym (yielded_is asked settled (right_at r.rights asked.page) few)

-- The laws of cells, for any test that decides whether contents are equal.
use Rattle.std.proofs.Common.{◌≡◌, refl, sym, ap, subst, ◌∙◌, Bool, true, false, cond}
use Rattle.std.specs.Bool.{Decides}
use Rattle.log_join.specs.Cells.{Cell, Absent, One, Clash, join_cell}
use Rattle.log_join.specs.Laws.{CellsJoin}

module _ {X : Type 0} {same : X → X → Bool} (told : (x y : X) → Decides (same x y) (x ≡ y)) where
  -- equal contents stay
  kept : (x y : X) → same x y ≡ true → x ≡ y
  kept x y = (told x y).0

  itself : (x : X) → same x x ≡ true
  itself x = (told x x).1 refl

  turned : (x y : X) → same x y ≡ same y x
  turned x y =
      elim (same x y) as (λ b. same x y ≡ b → b ≡ same y x) [
        | true ↦ λ t. sym ((told y x).1 (sym (kept x y t)))
        | false ↦ λ t. elim (same y x) as (λ b. same y x ≡ b → false ≡ b) [ true ↦ λ u. absurd (cc ((told x y).1 (sym (kept y x u)), t)) | false ↦ λ u. refl ]
            refl
      ] refl

  join_clash : (a : Cell X) → join_cell same a Clash ≡ Clash
  join_clash Absent = refl
  join_clash (One x) = refl
  join_clash Clash = refl

  three : (x y z : X) → join_cell same (join_cell same (One x) (One y)) (One z) ≡ join_cell same (One x) (join_cell same (One y) (One z))
  three x y z =
      elim (same x y) as (λ b. same x y ≡ b → join_cell same (cond b (One x) Clash) (One z) ≡ join_cell same (One x) (join_cell same (One y) (One z))) [
        | true ↦ λ t. let e = kept x y t in
            subst (λ (w : X). cond (same x z) (One x) Clash ≡ join_cell same (One x) (cond (same w z) (One w) Clash)) e
            (elim (same x z) as (λ b. cond b (One x) Clash ≡ join_cell same (One x) (cond b (One x) Clash)) [
              | true ↦ sym (ap (λ b. cond b (One x) Clash)
                  (itself x))
              | false ↦ refl
            ])
        | false ↦ λ t. elim (same y z) as (λ b. Clash ≡ join_cell same (One x) (cond b (One y) Clash)) [
          | true ↦ sym (ap (λ b. cond b (One x) Clash) t)
          | false ↦
              refl
        ]
      ] refl

  associative : (a b c : Cell X) → join_cell same (join_cell same a b) c ≡ join_cell same a (join_cell same b c)
  associative Absent b c = refl
  associative Clash b c = refl
  associative (One x) Absent c = refl
  associative (One x) Clash c = refl
  associative (One x) (One y) (One z) = three x y z
  associative (One x) (One y) Absent = elim (same x y) as (λ b. join_cell same (cond b (One x) Clash) Absent ≡ cond b (One x) Clash) [
    | true ↦ refl
    | false ↦
        refl
  ]
  associative (One x) (One y) Clash = join_clash _

  commutative : (a b : Cell X) → join_cell same a b ≡ join_cell same b a
  commutative Absent Absent = refl
  commutative Absent (One y) = refl
  commutative Absent Clash = refl
  commutative (One x) Absent = refl
  commutative (One x) Clash = refl
  commutative Clash Absent = refl
  commutative Clash (One y) = refl
  commutative Clash Clash = refl
  commutative (One x) (One y) =
      elim (same x y) as (λ b. same x y ≡ b → cond b (One x) Clash ≡ cond (same y x) (One y) Clash) [
        | true ↦ λ t. ap One (kept x y t) ∙ sym (ap (λ b. cond b (One y) Clash) (sym (turned x y) ∙ t))
        | false ↦ λ t. sym (ap (λ b. cond b (One y) Clash) (sym (turned x y) ∙ t))
      ] refl

  idempotent : (a : Cell X) → join_cell same a a ≡ a
  idempotent Absent = refl
  idempotent (One x) = ap (λ b. cond b (One x) Clash) (itself x)
  idempotent Clash = refl

  pub cells_join : CellsJoin same
  cells_join = record { associative = associative; commutative = commutative; idempotent = idempotent; unit = λ a. refl }

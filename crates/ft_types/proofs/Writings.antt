-- What is left to write of a text.
use Rattle.std.proofs.Common.{◌≡◌, ℕ, ◌+◌, ◌-◌, ◌%◌, ◌^◌, ◌≤◌, List, [], ◌++◌, length, take, drop, Option, Some, None, Result, Ok, Err, refl, ap, subst, sym}
use Rattle.std.proofs.Common.{◌∙◌, arith, append_assoc}
use Rattle.std.specs.Io.KnownBytes.{Appends}
use Rattle.std.proofs.lemmas.List.{take-append-drop}
use Rattle.std.proofs.lemmas.Grind.{common_steps}
use Rattle.ft_types.specs.Devices.{Writes}

pub appends_none : (o : Option (List ℕ)) → Appends o o []
appends_none None = tt
appends_none (Some xs) = sym (grind (arith, common_steps))

pub appends_then : (a b c : Option (List ℕ)) (xs ys : List ℕ) → Appends a b xs → Appends b c ys → Appends a c (xs ++ ys)
appends_then None b c xs ys p q = tt
appends_then (Some us) None c xs ys p q = absurd p
appends_then (Some us) (Some vs) None xs ys p q = absurd q
appends_then (Some us) (Some vs) (Some ws) xs ys p q = q ∙ rw (p, append_assoc) refl

-- rest is left of all; the bytes were old and are now, the failures are as many as before
pub record IsLeft (old now : Option (List ℕ)) (f g : ℕ) (all rest : List ℕ) : Type 0 where
  pub front : List ℕ
  pub parts : all ≡ front ++ rest
  pub taken : Appends old now front
  pub same : g ≡ f

pub left_start : (old : Option (List ℕ)) (f : ℕ) (all : List ℕ) → IsLeft old old f f all all
left_start old f all = record { front = []; parts = refl; taken = appends_none old; same = refl }

pub left_step : (old now new : Option (List ℕ)) (f g h : ℕ) (all rest more : List ℕ) → IsLeft old now f g all (more ++ rest) → Appends now new more → h ≡ g →
    IsLeft old new f h all rest
left_step old now new f g h all rest more p q e = record {
  front = p.front ++ more;
  parts = p.parts ∙ sym (append_assoc p.front more rest);
  taken = appends_then old now new p.front more p.taken q;
  same = e ∙ p.same;
}

pub left_fails : {A E : Type 0} (r : Result A E) (e : E) (old now new : Option (List ℕ)) (f g h : ℕ) (all rest more front later : List ℕ) → r ≡ Err e →
    IsLeft old now f g all (more ++ rest) → h ≡ (g + 1) % 2 ^ 64 → more ≡ front ++ later → Appends now new front → Writes r old new f h all
left_fails r e old now new f g h all rest more front later is p l m q =
    rw is (
      l ∙ ap (λ (k : ℕ). (k + 1) % 2 ^ 64) p.same,
      (
        p.front ++ front,
        later ++ rest,
        p.parts ∙ rw m (rw (append_assoc, append_assoc) refl),
        appends_then old now new p.front front p.taken q,
      ),
    )

pub left_end : {A E : Type 0} (r : Result A E) (x : A) (old now : Option (List ℕ)) (f g : ℕ) (all : List ℕ) → r ≡ Ok x → IsLeft old now f g all [] →
    Writes r old now f g all
left_end r x old now f g all is p = rw is (subst (λ (t : List ℕ). Appends old now t) (sym (p.parts ∙ grind (arith, common_steps))) p.taken, p.same)

pub left_written : (old now new : Option (List ℕ)) (f g h : ℕ) (all rest : List ℕ) (n : ℕ) → n ≤ length rest → IsLeft old now f g all rest →
    Appends now new (take n rest) → h ≡ g → IsLeft old new f h all (take (length rest - n) (drop n rest))
left_written old now new f g h all rest n le p q e =
    let same : take (length rest - n) (drop n rest) ≡ drop n rest = grind (arith, common_steps) in
    let both : IsLeft old now f g all (take n rest ++ drop n rest) = rw take-append-drop p in
    rw same (left_step old now new f g h all (drop n rest) (take n rest) both q e)

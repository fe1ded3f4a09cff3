-- The laws of page rights, from what is proved of any predicates.
use Rattle.std.proofs.Common.{List, [], Contains, refl, sym, subst, ◌∙◌, inl, inr, arith, eq-eqb, ne_eqb, true, true≢false}
use Rattle.ft_types.specs.declared.names.Want.TheVariants.{Read, Write}
use Rattle.interleaving.proofs.Put.{same_or_not, put_same}
use Rattle.crew_pages.specs.Rights.{Shared, Exclusive}
use Rattle.crew_pages.specs.Page.{IsRight, Begins, KeepsGoingOn, KeepsGivingUp, KeepsLowering, KeepsGiving, OwesSettled, PutsBefore, OneWriter, GivesIt}
use Rattle.crew_pages.proofs.Page.{begins_ok, right_more, give_up_ok, lower_ok, given_ok, owes_settled, right_before, one_owner}

none_in : {A : Type 0} (x : A) → Contains (let xs : List A = [] in xs) x → ⊥
none_in x (k, below, is) = omega arith

pub begins : Begins
begins crew edges settled own now late =
    begins_ok crew edges settled own now late (Contains []) (Contains []) (λ a h. none_in a h) (λ a h. none_in a h)

pub keeps_going_on : KeepsGoingOn
keeps_going_on old new r ok on =
    subst (λ crew. IsRight crew new.edges new.settled new.own new.now new.late (Contains new.wrote) (Contains new.touched) r) on.crew
    (right_more old.crew old.edges old.settled old.own old.now old.late (Contains old.wrote) (Contains old.touched) new.edges new.settled new.own new.now
    new.late (Contains new.wrote) (Contains new.touched) r ok on.edges on.settled on.own on.now on.late on.wrote on.touched)

pub keeps_giving_up : KeepsGivingUp
keeps_giving_up s r h ok may held =
    give_up_ok s.crew s.edges s.settled s.own s.now s.late (Contains s.wrote) (Contains s.touched) may.numbered may.within h may.mine r ok held

pub keeps_lowering : KeepsLowering
keeps_lowering s r h ok may calm owner =
    lower_ok s.crew s.edges s.settled s.own s.now s.late (Contains s.wrote) (Contains s.touched) may.numbered may.within h may.mine calm r ok owner

pub keeps_giving : KeepsGiving
keeps_giving s r h want n ok takes =
    given_ok s.crew s.edges s.settled s.own s.now s.late (Contains s.wrote) (Contains s.touched) takes.few r h want n ok takes.is_hart takes.bound takes.first
    takes.free takes.owed

pub owes_only_settled : OwesSettled
owes_only_settled s r h want n e ok owed =
    owes_settled s.crew s.edges s.settled s.own s.now s.late (Contains s.wrote) (Contains s.touched) r ok h want n e owed

pub puts_before : PutsBefore
puts_before s r a b ok some must =
    right_before s.crew s.edges s.settled s.own s.now s.late (Contains s.wrote) (Contains s.touched) r ok b.hart must.holder some a b refl must.since_then
    must.unsettled must.apart must.touched must.conflict

pub one_writer : OneWriter
one_writer r h g owner held = one_owner r h g owner held

pub gives_it : GivesIt
gives_it (Shared since readers left) h Read n free = put_same readers h h true refl
gives_it (Shared since readers left) h Write n free = eq-eqb h h refl
gives_it (Exclusive owner at since left) h want n free =
    elim (same_or_not h owner) [
      | inl same ↦ eq-eqb owner h (sym same)
      | inr ne ↦ absurd (true≢false (sym (rw (ne_eqb h owner ne, eq-eqb owner owner refl) refl) ∙ free owner))
    ]

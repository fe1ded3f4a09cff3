use Rattle.std.proofs.Common.{◌∙◌, sym, ap, subst, refl}
use Rattle.fragment_codec.specs.declared.frame.Frame.TheVariants.{Log}
use Rattle.log_join.specs.Stores.{StoreView}
use Rattle.log_join.specs.Answers.{Puts}
use Rattle.log_join.specs.machinery.Contents.{view_of}
use Rattle.log_join.specs.machinery.Places.{Place, place_of, place_cmp}
use Rattle.log_join.proofs.Told.{guests_told}
use Rattle.log_join.proofs.Stores.{IsTaken, puts_fragment, fragment_fits}
use Rattle.log_join.proofs.store.Store.put_fragment.Goals as goal

-- what `put_at` did, at the fragment's own key
taken_at : (c : goal.After-put_at) → IsTaken place_cmp c.self.inside.shelves.fragments c.put_at.new.shelf (place_of c.args.fragment.key) (Log c.args.fragment)
    c.put_at.result
taken_at c =
    subst (λ (p : Place). IsTaken place_cmp c.self.inside.shelves.fragments c.put_at.new.shelf p (Log c.args.fragment) c.put_at.result) (c.from-place.ensures ∙
    ap place_of c.key.ensures)
    (record { answers = c.put_at.ensures.answer; takes = c.put_at.ensures.taken; keeps = c.put_at.ensures.err; lacks = c.put_at.ensures.memory })

pub invariant_of-self : goal.invariant_of-self
invariant_of-self c =
    let own = sym c.guest.ensures ∙ (guests_told _ _).0 (sym c.if-not-is_same_guest.ensures) in
    fragment_fits c.self.inside.guest c.self.inside.shelves c.put_at.new.shelf c.args.fragment c.put_at.result c.self.invariant
    (record { rules = c.records-rules.ensures.rules; same_guest = own; same_key = refl }) (taken_at c)

pub returns : goal.returns
returns c =
    let s = c.self.inside.shelves in
    let n = c.put_at.new.shelf in
    let own = sym c.guest.ensures ∙ (guests_told _ _).0 (sym c.if-not-is_same_guest.ensures) in
    subst (λ (v : StoreView). Puts v (Log c.args.fragment) c.put_at.result (view_of c.self.inside.guest (record s { fragments = n }))) c.self.view_is
    (puts_fragment c.self.inside.guest s n c.args.fragment c.put_at.result c.self.invariant own (taken_at c))

use Rattle.std.proofs.Common.{◌∙◌, sym, ap}
use Rattle.std.specs.Ordering.{nat_cmp}
use Rattle.std.specs.BTreeMap.{get}
use Rattle.log_join.specs.machinery.Contents.{is_among, marked, copied}
use Rattle.log_join.specs.machinery.Places.{place_cmp}
use Rattle.log_join.proofs.Maps.{is_free}
use Rattle.log_join.proofs.shelves.Shelves.join.Goals as goal

pub copy_all-requires : goal.copy_all-requires
copy_all-requires c = record {
  free_terms = λ t h. is_free (get nat_cmp c.args.self.now.openings t) (get nat_cmp c.args.other.now.openings t)
      (sym (c.in_ok-terms.ensures t) ∙ ap (λ ks. is_among nat_cmp ks t) (sym c.deref.ensures.value) ∙ h);
  free_places = λ p h. is_free (get place_cmp c.args.self.now.fragments p) (get place_cmp c.args.other.now.fragments p)
      (sym (c.in_ok-places.ensures p) ∙ ap (λ ks. is_among place_cmp ks p) (sym c.deref-2.ensures.value) ∙ h);
}

pub returns-clause-ok : goal.returns-clause-ok
returns-clause-ok c = record {
  terms = λ t.
      let here = get nat_cmp c.args.self.now.openings t in
      let there = get nat_cmp c.args.other.now.openings t in
      c.mark_clashes.ensures t
      ∙ ap (λ x. marked x there) (c.in_ok-copy_all.ensures.ok.all_terms t
      ∙ ap (λ b. copied b here there) (ap (λ ks. is_among nat_cmp ks t) c.deref.ensures.value ∙ c.in_ok-terms.ensures t));
  places = λ p.
      let here = get place_cmp c.args.self.now.fragments p in
      let there = get place_cmp c.args.other.now.fragments p in
      c.mark_clashes-2.ensures p
      ∙ ap (λ x. marked x there) (c.in_ok-copy_all.ensures.ok.all_places p
      ∙ ap (λ b. copied b here there) (ap (λ ks. is_among place_cmp ks p) c.deref-2.ensures.value ∙ c.in_ok-places.ensures p));
}

-- The pieces of a hart, one after the other.
use Rattle.std.proofs.Common.{◌≡◌, ℕ, ◌+◌, ◌≤◌, List, ◌++◌, sym, ap, subst, ◌∙◌, add-one}
use Rattle.input_log.specs.declared.Input.{Input}
use Rattle.edge_log.specs.EdgeLog.{Edges}
use Rattle.fragment_codec.specs.Rules.{FragmentParts, IsFragment}
use Rattle.log_join.specs.Cells.{Cell, One}
use Rattle.log_join.specs.Stores.{StoreView, IsStore}
use Rattle.closed_cut.specs.Position.{pieces_of, Goes}
use Rattle.closed_cut.proofs.Reach.{goes_above}
use Rattle.hart_replay.specs.Facts.{records_in, records_of, below, edges_among, inputs_among, notes_among}
use Rattle.hart_replay.specs.machinery.Taking.{TakesEdges, TakesInputs, TakesNotes}
use Rattle.hart_replay.proofs.gathering.Records.{below-append, edges_among-append, inputs_among-append, notes_among-append, takes_both}
use Rattle.hart_replay.proofs.gathering.Inputs.{takes_both as takes_both_inputs}
use Rattle.hart_replay.proofs.gathering.Notes.{takes_both as takes_both_notes}

-- a piece of a store stands at its key, and is of its guest
module _ (store : StoreView) (rules : IsStore store) (term hart place : ℕ) (f : FragmentParts) (one : pieces_of store term hart place ≡ One f) where
  pub hart_is : f.key.hart ≡ hart
  hart_is = ap (λ k. k.hart) (rules.fragments (record { term = term; hart = hart; place = place }) f one).same_key

  pub harts_are : f.guest.harts ≡ store.guest.harts
  harts_are = ap (λ g. g.harts) (rules.fragments (record { term = term; hart = hart; place = place }) f one).same_guest

  pub rules_of : IsFragment f
  rules_of = (rules.fragments (record { term = term; hart = hart; place = place }) f one).rules

-- a walk comes to no less than its start
pub no_lower : (store : StoreView) → IsStore store → (term hart start place end : ℕ) → Goes (pieces_of store term hart) start place end → start ≤ end
no_lower store rules term hart start place end goes =
    goes_above (pieces_of store term hart) start (λ p x one. (rules_of store rules term hart p x one).some) place end goes

-- ---- one more piece

module _ (pieces : ℕ → Cell FragmentParts) (place : ℕ) (f : FragmentParts) (one : pieces place ≡ One f) (end : ℕ) where
  records_more : records_of pieces (place + 1) ≡ records_of pieces place ++ f.records
  records_more = ap (records_of pieces) (add-one place) ∙ ap (λ c. records_of pieces place ++ records_in c) one

  below_more : below end (records_of pieces (place + 1)) ≡ below end (records_of pieces place) ++ below end f.records
  below_more = ap (below end) records_more ∙ below-append end (records_of pieces place) f.records

  pub edges_on : (hart : ℕ) (old mid new : Edges) → TakesEdges hart old (edges_among (below end (records_of pieces place))) mid →
      TakesEdges hart mid (edges_among (below end f.records)) new → TakesEdges hart old (edges_among (below end (records_of pieces (place + 1)))) new
  edges_on hart old mid new so_far more =
      subst (λ l. TakesEdges hart old l new)
      (sym (ap edges_among below_more ∙ edges_among-append (below end (records_of pieces place)) (below end f.records)))
      (takes_both hart old mid new (edges_among (below end (records_of pieces place))) (edges_among (below end f.records)) so_far more)

  pub inputs_on : (hart : ℕ) (old mid new : List (List (ℕ × Input))) → TakesInputs hart old (inputs_among (below end (records_of pieces place))) mid →
      TakesInputs hart mid (inputs_among (below end f.records)) new → TakesInputs hart old (inputs_among (below end (records_of pieces (place + 1)))) new
  inputs_on hart old mid new so_far more =
      subst (λ l. TakesInputs hart old l new)
      (sym (ap inputs_among below_more ∙ inputs_among-append (below end (records_of pieces place)) (below end f.records)))
      (takes_both_inputs hart old mid new (inputs_among (below end (records_of pieces place))) (inputs_among (below end f.records)) so_far more)

  pub notes_on : (hart : ℕ) (old mid new : List ℕ) → TakesNotes hart old (notes_among (below end (records_of pieces place))) mid →
      TakesNotes hart mid (notes_among (below end f.records)) new → TakesNotes hart old (notes_among (below end (records_of pieces (place + 1)))) new
  notes_on hart old mid new so_far more =
      subst (λ l. TakesNotes hart old l new)
      (sym (ap notes_among below_more ∙ notes_among-append (below end (records_of pieces place)) (below end f.records)))
      (takes_both_notes hart old mid new (notes_among (below end (records_of pieces place))) (notes_among (below end f.records)) so_far more)

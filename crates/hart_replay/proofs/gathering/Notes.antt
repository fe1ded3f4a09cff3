-- Notes whose greatest number is kept.
use Rattle.std.proofs.Common.{◌≡◌, ◌≢◌, ℕ, ◌+◌, ◌<◌, ◌≤◌, max, List, [], ◌∷◌, ◌++◌, take, length, get_or, refl, sym, ap, subst, ◌∙◌, arith, slice_set}
use Rattle.std.proofs.Common.{append-nil, Bool, true}
use Rattle.std.specs.List.{filter}
use Rattle.std.proofs.lemmas.List.{get_or-set_same, get_or-set_other, length-set}
use Rattle.ft_types.specs.Counts.{count_at}
use Rattle.input_log.specs.Notes.{greatest}
use Rattle.input_log.proofs.Notings.{greatest_append}
use Rattle.fragment_codec.specs.declared.types.Record.{Record}
use Rattle.fragment_codec.specs.declared.types.Record.TheVariants.{Note as NoteRecord}
use Rattle.hart_replay.specs.Facts.{notes_among}
use Rattle.hart_replay.specs.machinery.Taking.{TakesNotes}
use Rattle.hart_replay.proofs.gathering.Records.{notes_more, kept_one}

pub takes_nothing : (hart : ℕ) (old : List ℕ) → TakesNotes hart old [] old
takes_nothing hart old = record { many = refl; own = omega arith; others = λ other ne. refl }

-- notes that are taken in two goes
pub takes_both : (hart : ℕ) (old mid new : List ℕ) (a b : List (ℕ × ℕ)) → TakesNotes hart old a mid → TakesNotes hart mid b new →
    TakesNotes hart old (a ++ b) new
takes_both hart old mid new a b one two =
    record {
      many = two.many ∙ one.many;
      own = omega (arith, two.own, one.own, greatest_append a b);
      others = λ other ne. two.others other ne ∙ one.others other ne;
    }

-- one more record, of which nothing is taken
pub skips_note : (hart : ℕ) (old now : List ℕ) (p : Record → Bool) (rs : List Record) (i : ℕ) (r : Record) → i < length rs → r ≡ get_or rs i r →
    notes_among (filter p (r ∷ [])) ≡ [] → TakesNotes hart old (notes_among (filter p (take i rs))) now →
    TakesNotes hart old (notes_among (filter p (take (i + 1) rs))) now
skips_note hart old now p rs i r less is none taken =
    subst (λ l. TakesNotes hart old l now) (sym (notes_more p rs i r less is ∙ (ap (λ l. notes_among (filter p (take i rs)) ++ l) none ∙
    append-nil (notes_among (filter p (take i rs)))))) taken

module _ (hart : ℕ) (old now : List ℕ) (p : Record → Bool) (rs : List Record) (i at number : ℕ) (less : i < length rs)
    (is : NoteRecord at number ≡ get_or rs i (NoteRecord at number)) (inside : p (NoteRecord at number) ≡ true)
    (taken : TakesNotes hart old (notes_among (filter p (take i rs))) now) where
  more : notes_among (filter p (take (i + 1) rs)) ≡ notes_among (filter p (take i rs)) ++ (at, number) ∷ []
  more = notes_more p rs i (NoteRecord at number) less is ∙
      ap (λ l. notes_among (filter p (take i rs)) ++ notes_among l) (kept_one p (NoteRecord at number) inside)

  -- one more note: the mark is then the greater of the two
  pub takes_note : (mark : ℕ) → mark ≡ max (count_at now hart) number → hart < length now →
      TakesNotes hart old (notes_among (filter p (take (i + 1) rs))) (slice_set now hart mark)
  takes_note mark is_mark within =
      subst (λ l. TakesNotes hart old l (slice_set now hart mark)) (sym more)
      (takes_both hart old now (slice_set now hart mark) (notes_among (filter p (take i rs))) ((at, number) ∷ []) taken
      (record {
        many = length-set now hart mark;
        own = get_or-set_same now hart mark 0 within ∙ (let e : mark ≡ max (count_at now hart) (max number 0) = omega (arith, is_mark) in e);
        others = λ other ne. get_or-set_other now hart other mark 0 ne;
      }))

-- What is read of a body is spelled so, and what is spelled so is read.
use Rattle.std.proofs.Common.{◌≡◌, ◌≢◌, ℕ, ◌+◌, ◌-◌, ◌^◌, ◌<◌, ◌≤◌, ◌&&◌, true, false, ltb, eqb, List, [], ◌∷◌, ◌++◌, length, Option, Some, refl, sym, ap, subst, ◌∙◌}
use Rattle.std.proofs.Common.{append_assoc, arith, inl, inr}
use Rattle.std.specs.Int.{w16, w32, w64}
use Rattle.std.specs.List.{flat_map, AllByRecursion}
use Rattle.std.proofs.lemmas.Bool.{ltb-true, lt-ltb, eqb-true, eqb-false, ne_eqb, cases_Bool, and_parts}
use Rattle.std.proofs.lemmas.List.{append-nil, nil_from_length}
use Rattle.ft_types.specs.Guests.{GuestParts}
use Rattle.ft_types.specs.declared.names.TheConstants.{HART_LIMIT}
use Rattle.fragment_codec.specs.declared.types.Key.{Key}
use Rattle.input_log.specs.declared.Input.{Input as HartInput}
use Rattle.input_log.specs.declared.Input.TheVariants.{Timer, Word, Bell}
use Rattle.fragment_codec.specs.declared.types.Record.{Record}
use Rattle.fragment_codec.specs.declared.types.Record.TheVariants.{Edge as EdgeRecord, Input as InputRecord, Note as NoteRecord}
use Rattle.fragment_codec.specs.Rules.{FragmentParts, OpeningParts, IsFragment, IsOpening, has_note}
use Rattle.fragment_codec.specs.Spelling.{log_body, opening_body, number, input_bytes, stand_bytes, record_bytes}
use Rattle.fragment_codec.specs.machinery.Reading.{number_at, byte_at, stand_at, harts_limit, is_span, guest_at, input_of, edge_at, heard_at, note_at, record_at, many, place_at}
use Rattle.fragment_codec.specs.machinery.Reading.{rest_of, log_of, opening_of}
use Rattle.fragment_codec.proofs.records.Rules.{FitsInput, FitsStand, FitsRecord, noted_later, records_fit, counts_fit}
use Rattle.fragment_codec.proofs.bytes.Fields.{IsBytes, bind_some, chosen_some, chosen, guard_then, some_is, Reads, reads_byte, reads_guest, reads16, reads32, reads64}
use Rattle.fragment_codec.proofs.bytes.Fields.{many_all, many_again, FitsGuest}

input_of_is : (kind value : ℕ) (i : HartInput) → value < 2 ^ 32 → input_of kind value ≡ Some i → (kind ∷ number w32 value ≡ input_bytes i) × FitsInput i
unfolding input_of input_bytes
input_of_is kind value i lt e =
    elim (chosen (eqb kind 0) _ _ _ e) [
      | inl h ↦
          let g = chosen_some (eqb value 0) (Some Timer) i h.1 in
          rw (eqb-true kind 0 h.0, eqb-true value 0 g.0, ← some_is Timer i g.1) (refl, tt)
      | inr h ↦
          elim (chosen (eqb kind 1) _ _ _ h.1) [
            | inl k ↦ rw (eqb-true kind 1 k.0, ← some_is (Word value) i k.1) (refl, lt)
            | inr k ↦
                let m = chosen_some (eqb kind 2) _ i k.1 in
                let g = chosen_some (ltb value HART_LIMIT) (Some (Bell value)) i m.1 in
                rw (eqb-true kind 2 m.0, ← some_is (Bell value) i g.1) (refl, ltb-true value HART_LIMIT g.0)
          ]
    ]

pub record Got (bytes text : List ℕ) (rest : List ℕ) (fact : Type 0) : Type 0 where
  pub parts : bytes ≡ text ++ rest
  pub rest_fits : IsBytes rest
  pub fits : fact

input_again : (i : HartInput) → FitsInput i → (kind : ℕ) × (value : ℕ) × (input_bytes i ≡ kind ∷ number w32 value) × (value < 2 ^ 32) ×
    (input_of kind value ≡ Some i)
unfolding input_bytes input_of
input_again Timer h = (0, 0, refl, omega arith, refl)
input_again (Word w) h = (1, w, refl, h, refl)
input_again (Bell source) h = (2, source, refl, omega (arith, h), rw (lt-ltb source HART_LIMIT h) refl)

-- ---- where a record stands

stand_all : (version from : ℕ) (bytes : List ℕ) (at : ℕ) (rest : List ℕ) → IsBytes bytes → stand_at version from bytes ≡ Some (at, rest) →
    Got bytes (stand_bytes version from at) rest (FitsStand version from at)
unfolding stand_at stand_bytes
stand_all version from bytes at rest fits e =
    elim (chosen (eqb version 1) _ _ _ e) [
      | inl h ↦
          rw h.0 (record {
            parts = reads64.parts bytes at rest fits h.1;
            rest_fits = reads64.rest bytes at rest fits h.1;
            fits = (reads64.fits bytes at rest fits h.1, λ ne. absurd (ne (eqb-true version 1 h.0)));
          })
      | inr h ↦
          let d = bind_some (number_at w32 bytes) _ (at, rest) h.1 in
          let g = chosen_some (ltb (from + d.0.0) (2 ^ 64)) (Some (from + d.0.0, d.0.1)) (at, rest) d.2 in
          let near = reads32.fits bytes d.0.0 d.0.1 fits d.1 in
          let back : d.0.0 ≡ from + d.0.0 - from = omega arith in
          rw h.0 (subst (λ (y : ℕ × List ℕ). Got bytes (number w32 (y.0 - from)) y.1 (FitsStand version from y.0)) (some_is (from + d.0.0, d.0.1) (at, rest) g.1)
          (record {
            parts = reads32.parts bytes d.0.0 d.0.1 fits d.1 ∙ ap (λ (n : ℕ). number w32 n ++ d.0.1) back;
            rest_fits = reads32.rest bytes d.0.0 d.0.1 fits d.1;
            fits = (ltb-true (from + d.0.0) (2 ^ 64) g.0, λ ne. (omega arith, omega (arith, near)));
          }))
    ]

stand_again : (version from at : ℕ) (rest : List ℕ) → FitsStand version from at → stand_at version from (stand_bytes version from at ++ rest) ≡ Some (at, rest)
unfolding stand_at stand_bytes
stand_again version from at rest h =
    elim (cases_Bool (eqb version 1)) [
      | inl e ↦ rw e (reads64.again at rest h.0)
      | inr e ↦
          let near = h.1 (eqb-false version 1 e) in
          let same : from + (at - from) ≡ at = omega (arith, near.0) in
          rw (e, reads32.again (at - from) rest near.1, same, lt-ltb at (2 ^ 64) h.0) refl
    ]

reads_stand : (version from : ℕ) → Reads (stand_at version from) (stand_bytes version from) (FitsStand version from)
reads_stand version from = record {
  parts = λ bytes at rest fits e. (stand_all version from bytes at rest fits e).parts;
  rest = λ bytes at rest fits e. (stand_all version from bytes at rest fits e).rest_fits;
  fits = λ bytes at rest fits e. (stand_all version from bytes at rest fits e).fits;
  again = λ at rest h. stand_again version from at rest h;
}

-- ---- records

edge_all : (version from hart : ℕ) (bytes : List ℕ) (r : Record) (rest : List ℕ) → IsBytes bytes → edge_at version from hart bytes ≡ Some (r, rest) →
    Got (1 ∷ bytes) (record_bytes version from r) rest (FitsRecord version from hart r)
unfolding edge_at record_bytes
edge_all version from hart bytes r rest fits e =
    let reads = reads_stand version from in
    let a = bind_some (stand_at version from bytes) _ (r, rest) e in
    let b = bind_some (byte_at a.0.1) _ (r, rest) a.2 in
    let d = bind_some (number_at w64 b.0.1) _ (r, rest) b.2 in
    let made : Record = EdgeRecord (record { hart = hart; at = a.0.0; other = b.0.0; after = d.0.0 }) in
    let g = chosen_some (ltb b.0.0 HART_LIMIT) (Some (made, d.0.1)) (r, rest) d.2 in
    let fa = reads.rest bytes a.0.0 a.0.1 fits a.1 in
    let fb = reads_byte.rest a.0.1 b.0.0 b.0.1 fa b.1 in
    let stand : List ℕ = stand_bytes version from a.0.0 in
    let inner : bytes ≡ (stand ++ (b.0.0 ∷ number w64 d.0.0)) ++ d.0.1 =
    reads.parts bytes a.0.0 a.0.1 fits a.1 ∙ ap (λ (x : List ℕ). stand ++ x) (reads_byte.parts a.0.1 b.0.0 b.0.1 fa b.1 ∙
    ap (λ (x : List ℕ). b.0.0 ∷ x) (reads64.parts b.0.1 d.0.0 d.0.1 fb d.1)) ∙ sym (append_assoc stand (b.0.0 ∷ number w64 d.0.0) d.0.1) in
    let whole : 1 ∷ bytes ≡ record_bytes version from made ++ d.0.1 = ap (λ (x : List ℕ). 1 ∷ x) inner in
    subst (λ (y : Record × List ℕ). Got (1 ∷ bytes) (record_bytes version from y.0) y.1 (FitsRecord version from hart y.0)) (some_is (made, d.0.1) (r, rest) g.1)
    (record {
      parts = whole;
      rest_fits = reads64.rest b.0.1 d.0.0 d.0.1 fb d.1;
      fits = (
        refl,
        reads.fits bytes a.0.0 a.0.1 fits a.1,
        ltb-true b.0.0 HART_LIMIT g.0,
        reads64.fits b.0.1 d.0.0 d.0.1 fb d.1,
      );
    })

heard_all : (version from hart : ℕ) (bytes : List ℕ) (r : Record) (rest : List ℕ) → IsBytes bytes → heard_at version from bytes ≡ Some (r, rest) →
    Got (2 ∷ bytes) (record_bytes version from r) rest (FitsRecord version from hart r)
unfolding heard_at record_bytes
heard_all version from hart bytes r rest fits e =
    let reads = reads_stand version from in
    let a = bind_some (stand_at version from bytes) _ (r, rest) e in
    let b = bind_some (byte_at a.0.1) _ (r, rest) a.2 in
    let d = bind_some (number_at w32 b.0.1) _ (r, rest) b.2 in
    let i = bind_some (input_of b.0.0 d.0.0) _ (r, rest) d.2 in
    let fa = reads.rest bytes a.0.0 a.0.1 fits a.1 in
    let fb = reads_byte.rest a.0.1 b.0.0 b.0.1 fa b.1 in
    let is = input_of_is b.0.0 d.0.0 i.0 (reads32.fits b.0.1 d.0.0 d.0.1 fb d.1) i.1 in
    let made : Record = InputRecord a.0.0 i.0 in
    let stand : List ℕ = stand_bytes version from a.0.0 in
    let inner : bytes ≡ (stand ++ input_bytes i.0) ++ d.0.1 =
    reads.parts bytes a.0.0 a.0.1 fits a.1
    ∙ ap (λ (x : List ℕ). stand ++ x) (reads_byte.parts a.0.1 b.0.0 b.0.1 fa b.1 ∙ ap (λ (x : List ℕ). b.0.0 ∷ x)
    (reads32.parts b.0.1 d.0.0 d.0.1 fb d.1) ∙ ap (λ (x : List ℕ). x ++ d.0.1) is.0)
    ∙ sym (append_assoc stand (input_bytes i.0) d.0.1) in
    let whole : 2 ∷ bytes ≡ record_bytes version from made ++ d.0.1 = ap (λ (x : List ℕ). 2 ∷ x) inner in
    subst (λ (y : Record × List ℕ). Got (2 ∷ bytes) (record_bytes version from y.0) y.1 (FitsRecord version from hart y.0)) (some_is (made, d.0.1) (r, rest) i.2)
    (record { parts = whole; rest_fits = reads32.rest b.0.1 d.0.0 d.0.1 fb d.1; fits = (reads.fits bytes a.0.0 a.0.1 fits a.1, is.1) })

note_all : (version from hart : ℕ) (bytes : List ℕ) (r : Record) (rest : List ℕ) → IsBytes bytes → version ≢ 1 → note_at version from bytes ≡ Some (r, rest) →
    Got (3 ∷ bytes) (record_bytes version from r) rest (FitsRecord version from hart r)
unfolding note_at record_bytes
note_all version from hart bytes r rest fits later e =
    let reads = reads_stand version from in
    let a = bind_some (stand_at version from bytes) _ (r, rest) e in
    let d = bind_some (number_at w64 a.0.1) _ (r, rest) a.2 in
    let fa = reads.rest bytes a.0.0 a.0.1 fits a.1 in
    let made : Record = NoteRecord a.0.0 d.0.0 in
    let stand : List ℕ = stand_bytes version from a.0.0 in
    let inner : bytes ≡ (stand ++ number w64 d.0.0) ++ d.0.1 =
    reads.parts bytes a.0.0 a.0.1 fits a.1 ∙ ap (λ (x : List ℕ). stand ++ x) (reads64.parts a.0.1 d.0.0 d.0.1 fa d.1) ∙
    sym (append_assoc stand (number w64 d.0.0) d.0.1) in
    let whole : 3 ∷ bytes ≡ record_bytes version from made ++ d.0.1 = ap (λ (x : List ℕ). 3 ∷ x) inner in
    subst (λ (y : Record × List ℕ). Got (3 ∷ bytes) (record_bytes version from y.0) y.1 (FitsRecord version from hart y.0)) (some_is (made, d.0.1) (r, rest) d.2)
    (record {
      parts = whole;
      rest_fits = reads64.rest a.0.1 d.0.0 d.0.1 fa d.1;
      fits = (reads.fits bytes a.0.0 a.0.1 fits a.1, reads64.fits a.0.1 d.0.0 d.0.1 fa d.1, later);
    })

record_all : (version from hart : ℕ) (bytes : List ℕ) (r : Record) (rest : List ℕ) → IsBytes bytes → record_at version from hart bytes ≡ Some (r, rest) →
    Got bytes (record_bytes version from r) rest (FitsRecord version from hart r)
unfolding record_at
record_all version from hart bytes r rest fits e =
    let a = bind_some (byte_at bytes) _ (r, rest) e in
    let fa = reads_byte.rest bytes a.0.0 a.0.1 fits a.1 in
    let p = reads_byte.parts bytes a.0.0 a.0.1 fits a.1 in
    elim (chosen (eqb a.0.0 1) _ _ _ a.2) [
      | inl h ↦
          let g = edge_all version from hart a.0.1 r rest fa h.1 in
          record { parts = p ∙ ap (λ (k : ℕ). k ∷ a.0.1) (eqb-true a.0.0 1 h.0) ∙ g.parts; rest_fits = g.rest_fits; fits = g.fits }
      | inr h ↦
          elim (chosen (eqb a.0.0 2) _ _ _ h.1) [
            | inl m ↦
                let g = heard_all version from hart a.0.1 r rest fa m.1 in
                record { parts = p ∙ ap (λ (k : ℕ). k ∷ a.0.1) (eqb-true a.0.0 2 m.0) ∙ g.parts; rest_fits = g.rest_fits; fits = g.fits }
            | inr m ↦
                let n = chosen_some (eqb a.0.0 3) _ (r, rest) m.1 in
                let l = guard_then (eqb version 1) _ (r, rest) n.1 in
                let g = note_all version from hart a.0.1 r rest fa (eqb-false version 1 l.0) l.1 in
                record { parts = p ∙ ap (λ (k : ℕ). k ∷ a.0.1) (eqb-true a.0.0 3 n.0) ∙ g.parts; rest_fits = g.rest_fits; fits = g.fits }
          ]
    ]

record_again : (version from hart : ℕ) (r : Record) (rest : List ℕ) → FitsRecord version from hart r →
    record_at version from hart (record_bytes version from r ++ rest) ≡ Some (r, rest)
unfolding record_at record_bytes byte_at edge_at heard_at note_at
record_again version from hart (EdgeRecord e) rest h =
    rw (
      append_assoc (stand_bytes version from e.at) (e.other ∷ number w64 e.after) rest,
      stand_again version from e.at (e.other ∷ (number w64 e.after ++ rest)) h.1,
      reads64.again e.after rest h.3,
      lt-ltb e.other HART_LIMIT h.2,
      ← h.0,
    ) refl
record_again version from hart (InputRecord at input) rest h =
    let i = input_again input h.1 in
    rw (
      append_assoc (stand_bytes version from at) (input_bytes input) rest,
      stand_again version from at (input_bytes input ++ rest) h.0,
      i.2,
      reads32.again i.1 rest i.3,
      i.4,
    ) refl
record_again version from hart (NoteRecord at number1) rest h =
    rw (
      append_assoc (stand_bytes version from at) (number w64 number1) rest,
      ne_eqb version 1 h.2,
      stand_again version from at (number w64 number1 ++ rest) h.0,
      reads64.again number1 rest h.1,
    ) refl

pub reads_record : (version from hart : ℕ) → Reads (record_at version from hart) (record_bytes version from) (FitsRecord version from hart)
reads_record version from hart = record {
  parts = λ bytes r rest fits e. (record_all version from hart bytes r rest fits e).parts;
  rest = λ bytes r rest fits e. (record_all version from hart bytes r rest fits e).rest_fits;
  fits = λ bytes r rest fits e. (record_all version from hart bytes r rest fits e).fits;
  again = λ r rest h. record_again version from hart r rest h;
}

-- ---- the two bodies

many_whole : {X : Type 0} (item : List ℕ → Option (X × List ℕ)) (text : X → List ℕ) (Fits : X → Type 0) (r : Reads item text Fits) (xs : List X) →
    AllByRecursion Fits xs → many item (length xs) (flat_map text xs) ≡ Some (xs, [])
many_whole item text Fits r xs h = ap (many item (length xs)) (sym (append-nil (flat_map text xs))) ∙ many_again item text Fits r xs [] h

guest_then : (version : ℕ) (bytes : List ℕ) (guest : GuestParts) (rest : List ℕ) → IsBytes bytes → guest_at version bytes ≡ Some (guest, rest) →
    bytes ≡ guest.digest ++ (guest.harts ∷ rest)
guest_then version bytes guest rest fits e = (reads_guest version).parts bytes guest rest fits e ∙ append_assoc guest.digest (guest.harts ∷ []) rest

guest_back : (version : ℕ) (guest : GuestParts) (rest : List ℕ) → FitsGuest version guest →
    guest_at version (guest.digest ++ (guest.harts ∷ rest)) ≡ Some (guest, rest)
guest_back version guest rest h =
    ap (guest_at version) (sym (append_assoc guest.digest (guest.harts ∷ []) rest)) ∙ (reads_guest version).again guest rest h

pub record GotPlace (version : ℕ) (bytes : List ℕ) (g : GuestParts) (k : Key) (rest : List ℕ) : Type 0 where
  pub parts : bytes ≡ g.digest ++ (g.harts ∷ k.hart ∷ (number w32 k.term ++ (number w32 k.place ++ rest)))
  pub rest_fits : IsBytes rest
  pub few : g.harts ≤ harts_limit version

place_all : (version : ℕ) (bytes : List ℕ) (x : GuestParts × Key × List ℕ) → IsBytes bytes → place_at version bytes ≡ Some x →
    GotPlace version bytes x.0 x.1 x.2
unfolding place_at
place_all version bytes x fits e =
    let g = bind_some (guest_at version bytes) _ x e in
    let k = bind_some (byte_at g.0.1) _ x g.2 in
    let t = bind_some (number_at w32 k.0.1) _ x k.2 in
    let p = bind_some (number_at w32 t.0.1) _ x t.2 in
    let fg = (reads_guest version).rest bytes g.0.0 g.0.1 fits g.1 in
    let fk = reads_byte.rest g.0.1 k.0.0 k.0.1 fg k.1 in
    let ft = reads32.rest k.0.1 t.0.0 t.0.1 fk t.1 in
    let made : GuestParts × Key × List ℕ = (g.0.0, record { term = t.0.0; hart = k.0.0; place = p.0.0 }, p.0.1) in
    let few = chosen_some (ltb k.0.0 HART_LIMIT) (Some made) x p.2 in
    subst (λ (y : GuestParts × Key × List ℕ). GotPlace version bytes y.0 y.1 y.2) (some_is made x few.1) (record {
      parts = guest_then version bytes g.0.0 g.0.1 fits g.1 ∙ ap (λ (x : List ℕ). g.0.0.digest ++ (g.0.0.harts ∷ x)) (
          reads_byte.parts g.0.1 k.0.0 k.0.1 fg k.1 ∙ ap (λ (x : List ℕ). k.0.0 ∷ x) (
          reads32.parts k.0.1 t.0.0 t.0.1 fk t.1 ∙ ap (λ (x : List ℕ). number w32 t.0.0 ++ x) (
          reads32.parts t.0.1 p.0.0 p.0.1 ft p.1)));
      rest_fits = reads32.rest t.0.1 p.0.0 p.0.1 ft p.1;
      few = ((reads_guest version).fits bytes g.0.0 g.0.1 fits g.1).1;
    })

-- what is read of a log body
pub record GotLog (version : ℕ) (bytes : List ℕ) (f : FragmentParts) : Type 0 where
  pub text : bytes ≡ log_body version f
  pub few : f.guest.harts ≤ harts_limit version
  pub span : is_span version f.from f.to ≡ true
  pub plain : version ≡ 1 → has_note f.records ≡ false

pub log_all : (version : ℕ) (bytes : List ℕ) (f : FragmentParts) → IsBytes bytes → log_of version bytes ≡ Some f → GotLog version bytes f
unfolding log_of rest_of log_body
log_all version bytes f fits e =
    let q = bind_some (place_at version bytes) _ f e in
    let a = bind_some (number_at w64 q.0.2) _ f q.2 in
    let z = bind_some (number_at w64 a.0.1) _ f a.2 in
    let n = bind_some (number_at w16 z.0.1) _ f z.2 in
    let r = bind_some (many (record_at version a.0.0 q.0.1.hart) n.0.0 n.0.1) _ f n.2 in
    let parts : FragmentParts = record { guest = q.0.0; key = q.0.1; from = a.0.0; to = z.0.0; records = r.0.0 } in
    let g0 = chosen_some (is_span version a.0.0 z.0.0 && eqb (length r.0.1) 0) (Some parts) f r.2 in
    let tests = and_parts (is_span version a.0.0 z.0.0) (eqb (length r.0.1) 0) g0.0 in
    let g = place_all version bytes q.0 fits q.1 in
    let text : List Record → List ℕ = flat_map (record_bytes version a.0.0) in
    let fa = reads64.rest q.0.2 a.0.0 a.0.1 g.rest_fits a.1 in
    let fz = reads64.rest a.0.1 z.0.0 z.0.1 fa z.1 in
    let fn = reads16.rest z.0.1 n.0.0 n.0.1 fz n.1 in
    let m = many_all (record_at version a.0.0 q.0.1.hart) (record_bytes version a.0.0) (FitsRecord version a.0.0 q.0.1.hart)
    (reads_record version a.0.0 q.0.1.hart) n.0.0 n.0.1 r.0.0 r.0.1 fn r.1 in
    let nothing : r.0.1 ≡ [] = nil_from_length r.0.1 (eqb-true _ _ tests.1) in
    let last : n.0.1 ≡ text r.0.0 = m.0 ∙ ap (λ (x : List ℕ). text r.0.0 ++ x) nothing ∙ append-nil (text r.0.0) in
    let inner : q.0.2 ≡ number w64 a.0.0 ++ (number w64 z.0.0 ++ (number w16 (length r.0.0) ++ text r.0.0)) =
    reads64.parts q.0.2 a.0.0 a.0.1 g.rest_fits a.1 ∙ ap (λ (x : List ℕ). number w64 a.0.0 ++ x) (
    reads64.parts a.0.1 z.0.0 z.0.1 fa z.1 ∙ ap (λ (x : List ℕ). number w64 z.0.0 ++ x) (
    reads16.parts z.0.1 n.0.0 n.0.1 fz n.1 ∙ ap (λ (x : List ℕ). number w16 n.0.0 ++ x) last ∙ ap (λ (q : ℕ). number w16 q ++ text r.0.0)
    (sym m.2))) in
    let whole : bytes ≡ log_body version parts = g.parts ∙ ap (λ (x : List ℕ). q.0.0.digest ++
    (q.0.0.harts ∷ q.0.1.hart ∷ (number w32 q.0.1.term ++ (number w32 q.0.1.place ++ x)))) inner in
    subst (λ (y : FragmentParts). GotLog version bytes y) (some_is parts f g0.1) (record {
      text = whole;
      few = g.few;
      span = tests.0;
      plain = noted_later version a.0.0 q.0.1.hart r.0.0 m.3;
    })

pub log_again : (version : ℕ) (f : FragmentParts) → IsFragment f → f.guest.harts ≤ harts_limit version → is_span version f.from f.to ≡ true →
    (version ≢ 1 → f.to - f.from < 2 ^ 32) → (has_note f.records ≡ true → version ≢ 1) → log_of version (log_body version f) ≡ Some f
unfolding log_of rest_of log_body byte_at place_at
log_again version f h few span short later =
    let limit = h.records.limit in
    let hart : f.key.hart < HART_LIMIT = omega (arith, h.key.hart, h.guest.limit) in
    rw (
      guest_back version f.guest _ (h.guest, few),
      reads32.again f.key.term _ h.key.term,
      reads32.again f.key.place _ h.key.place,
      lt-ltb f.key.hart HART_LIMIT hart,
      reads64.again f.from _ (omega (arith, h.some, h.end)),
      reads64.again f.to _ (omega (arith, h.end)),
      reads16.again (length f.records) _ (omega (arith, limit)),
      many_whole (record_at version f.from f.key.hart) (record_bytes version f.from) (FitsRecord version f.from f.key.hart)
          (reads_record version f.from f.key.hart) f.records (records_fit version f h short later),
      span,
    ) refl

-- what is read of an opening body
pub record GotOpening (version : ℕ) (bytes : List ℕ) (o : OpeningParts) : Type 0 where
  pub text : bytes ≡ opening_body o
  pub few : o.guest.harts ≤ harts_limit version

pub opening_all : (version : ℕ) (bytes : List ℕ) (o : OpeningParts) → IsBytes bytes → opening_of version bytes ≡ Some o → GotOpening version bytes o
unfolding opening_of opening_body
opening_all version bytes o fits e =
    let g = bind_some (guest_at version bytes) _ o e in
    let t = bind_some (number_at w32 g.0.1) _ o g.2 in
    let p = bind_some (number_at w32 t.0.1) _ o t.2 in
    let r = bind_some (many (number_at w64) g.0.0.harts p.0.1) _ o p.2 in
    let parts : OpeningParts = record { guest = g.0.0; term = t.0.0; parent = p.0.0; base = r.0.0 } in
    let g0 = chosen_some (eqb (length r.0.1) 0) (Some parts) o r.2 in
    let fg = (reads_guest version).rest bytes g.0.0 g.0.1 fits g.1 in
    let few = ((reads_guest version).fits bytes g.0.0 g.0.1 fits g.1).1 in
    let ft = reads32.rest g.0.1 t.0.0 t.0.1 fg t.1 in
    let fp = reads32.rest t.0.1 p.0.0 p.0.1 ft p.1 in
    let m = many_all (number_at w64) (number w64) (λ n. n < 2 ^ 64) reads64 g.0.0.harts p.0.1 r.0.0 r.0.1 fp r.1 in
    let nothing : r.0.1 ≡ [] = nil_from_length r.0.1 (eqb-true _ _ g0.0) in
    let last : p.0.1 ≡ flat_map (number w64) r.0.0 = m.0 ∙ ap (λ (x : List ℕ). flat_map (number w64) r.0.0 ++ x) nothing ∙
    append-nil (flat_map (number w64) r.0.0) in
    let whole : bytes ≡ opening_body parts =
    guest_then version bytes g.0.0 g.0.1 fits g.1 ∙ ap (λ (x : List ℕ). g.0.0.digest ++ (g.0.0.harts ∷ x)) (
    reads32.parts g.0.1 t.0.0 t.0.1 fg t.1 ∙ ap (λ (x : List ℕ). number w32 t.0.0 ++ x) (
    reads32.parts t.0.1 p.0.0 p.0.1 ft p.1 ∙ ap (λ (x : List ℕ). number w32 p.0.0 ++ x) last)) in
    subst (λ (y : OpeningParts). GotOpening version bytes y) (some_is parts o g0.1) (record { text = whole; few = few })

pub opening_again : (version : ℕ) (o : OpeningParts) → IsOpening o → o.guest.harts ≤ harts_limit version → opening_of version (opening_body o) ≡ Some o
unfolding opening_of opening_body byte_at
opening_again version o h few =
    let base : many (number_at w64) o.guest.harts (flat_map (number w64) o.base) ≡ Some (o.base, []) = ap (λ (n : ℕ). many (number_at w64) n
    (flat_map (number w64) o.base)) (sym h.base) ∙ many_whole (number_at w64) (number w64) (λ n. n < 2 ^ 64) reads64 o.base (counts_fit o h) in
    rw (
      guest_back version o.guest _ (h.guest, few),
      reads32.again o.term _ h.term,
      reads32.again o.parent _ (omega (arith, h.parent, h.term)),
      base,
    ) refl

-- Pages of parts.
use Rattle.std.proofs.Common.{◌≡◌, ℕ, zero, suc, ◌+◌, ◌<◌, ◌≤◌, List, [], ◌∷◌, ◌++◌, map, take, length, length-set, inl, inr, slice_get, slice_set, slice_index_or, option_map, Some, true, false, refl, ap, sym, subst, ◌∙◌, arith}
use Rattle.std.proofs.Math.Seq.{map-set_same}
use Rattle.std.proofs.lemmas.List.{map-append, map-set, get_or-set_same, get_or-set_other}
use Rattle.std.proofs.lemmas.Option.{slice_get-map}
use Rattle.ft_types.specs.declared.names.TheConstants.{PAGE_LIMIT}
use Rattle.interleaving.proofs.Put.{same_or_not}
use Rattle.log_audit.proofs.Lists.{take_more, get_at}
use Rattle.rv32_hart.specs.Ram.{IsRam, with_page, page_of}
use Rattle.moments.specs.declared.ram.Part.{Part}
use Rattle.moments.specs.declared.ram.Part.TheVariants.{Own}
use Rattle.moments.specs.machinery.Parts.{bytes_of, is_own, contents_of, owned, ram_of}

-- the bytes at a place
pub bytes_at : (parts : List Part) (page : ℕ) (part : Part) → page < length (contents_of parts) →
    slice_index_or (contents_of parts) page [] ≡ bytes_of (slice_index_or parts page part)
bytes_at [] page part lt = absurd (omega (arith, lt))
bytes_at (p ∷ parts) zero part lt = refl
bytes_at (p ∷ parts) (suc page) part lt = bytes_at parts page part (omega (arith, lt))

-- each page may be read
pub readable : (parts : List Part) (page : ℕ) → page < length (contents_of parts) → slice_index_or (map (λ (part : Part). true) parts) page false ≡ true
readable [] page lt = absurd (omega (arith, lt))
readable (p ∷ parts) zero lt = refl
readable (p ∷ parts) (suc page) lt = readable parts page (omega (arith, lt))

-- a part that was read there is there
pub part_at : (parts : List Part) (i page : ℕ) (part : Part) → i ≡ page → page < length (contents_of parts) → part ≡ slice_index_or parts i part →
    slice_index_or (contents_of parts) page [] ≡ bytes_of part
part_at parts i page part at lt is =
    bytes_at parts page part lt ∙ ap (λ (k : ℕ). bytes_of (slice_index_or parts k part)) (sym at) ∙ ap bytes_of (sym is)

-- one part more
pub part_more : (before after : List Part) (pages : List (List ℕ)) (n : ℕ) (part : Part) → after ≡ before ++ part ∷ [] → contents_of before ≡ take n pages →
    slice_get pages n ≡ Some (bytes_of part) → contents_of after ≡ take (n + 1) pages
part_more before after pages n part put so_far there =
    ap contents_of put
    ∙ map-append bytes_of before (part ∷ [])
    ∙ ap (λ (l : List (List ℕ)). l ++ bytes_of part ∷ []) so_far
    ∙ sym (take_more pages n (bytes_of part) there)

-- a part with the bytes of the one that is there
pub part_there : (parts : List Part) (n : ℕ) (part copy : Part) → part ≡ slice_index_or parts n part → n < length parts → bytes_of copy ≡ bytes_of part →
    slice_get (contents_of parts) n ≡ Some (bytes_of copy)
part_there parts n part copy is lt same =
    slice_get-map bytes_of parts n ∙ ap (option_map bytes_of) (get_at parts n part is lt) ∙ ap Some (sym same)

-- a part in place of one with the same bytes
pub put_same : (parts : List Part) (i : ℕ) (old new : Part) → old ≡ slice_index_or parts i old → bytes_of new ≡ bytes_of old →
    contents_of (slice_set parts i new) ≡ contents_of parts
put_same parts i old new is same = map-set_same bytes_of parts i new old (same ∙ ap bytes_of is)

-- it is the machine's own
pub put_own : (parts : List Part) (i page : ℕ) (new : Part) → i ≡ page → is_own new ≡ true → owned (slice_set parts i new) ≡ slice_set (owned parts) page true
put_own parts i page new at own =
    map-set is_own parts i new ∙ ap (slice_set (owned parts) i) own ∙ ap (λ (k : ℕ). slice_set (owned parts) k true) at

-- parts with the same bytes are RAM as well
pub same_ram : (old new : List Part) → contents_of new ≡ contents_of old → IsRam (ram_of old) → IsRam (ram_of new)
same_ram old new same is =
    record {
      pages = subst (λ (c : List (List ℕ)). length c ≤ PAGE_LIMIT) (sym same) is.pages;
      bytes =
          subst (λ (c : List (List ℕ)). (page : ℕ) → page < length c → length (slice_index_or c page []) ≡ 4096) (sym same) is.bytes;
    }

-- and so they are with another page of as many bytes
pub put_ram : (parts : List Part) (i : ℕ) (new : Part) → length (bytes_of new) ≡ 4096 → IsRam (ram_of parts) → IsRam (ram_of (slice_set parts i new))
put_ram parts i new size is =
    let put = map-set bytes_of parts i new in
    let many : length (contents_of (slice_set parts i new)) ≡ length (contents_of parts) = ap length put ∙ length-set (contents_of parts) i (bytes_of new) in
    record {
      pages = let le = is.pages in omega (arith, le, many);
      bytes = λ page lt.
          let there : page < length (contents_of parts) = omega (arith, lt, many) in
          ap (λ (c : List (List ℕ)). length (slice_index_or c page [])) put
          ∙ elim (same_or_not i page) [
            | inl same ↦
                ap (λ (k : ℕ). length (slice_index_or (slice_set (contents_of parts) k (bytes_of new)) page [])) same
                ∙ ap length (get_or-set_same (contents_of parts) page (bytes_of new) [] there)
                ∙ size
            | inr other ↦
                ap length (get_or-set_other (contents_of parts) i page (bytes_of new) [] (λ same. other (sym same)))
                ∙ is.bytes page there
          ];
    }

-- ---- a part of its own is written

module _ (parts : List Part) (i page : ℕ) (part : Part) (own new : List ℕ) (at : i ≡ page) (lt : page < length (contents_of parts)) (is : part ≡ slice_index_or parts i part)
    (part_is : part ≡ Own own) where
  pub written : (change : List ℕ → List ℕ) → new ≡ change own → ram_of (slice_set parts i (Own new)) ≡ with_page (ram_of parts) page (change (page_of (ram_of parts) page))
  written change changed = λ j. record { contents = contents j; readable = flags j; writable = rights j }
    where
      contents : contents_of (slice_set parts i (Own new)) ≡ slice_set (contents_of parts) page (change (page_of (ram_of parts) page))
      contents =
          map-set bytes_of parts i (Own new)
          ∙ ap (λ (k : ℕ). slice_set (contents_of parts) k new) at
          ∙ ap (slice_set (contents_of parts) page) (changed ∙ ap change (ap bytes_of (sym part_is) ∙ sym (part_at parts i page part at lt is)))

      flags : map (λ (p : Part). true) (slice_set parts i (Own new)) ≡ map (λ (p : Part). true) parts
      flags = map-set_same (λ (p : Part). true) parts i (Own new) part refl

      rights : owned (slice_set parts i (Own new)) ≡ owned parts
      rights = map-set_same is_own parts i (Own new) part (ap is_own (sym part_is) ∙ ap is_own is)

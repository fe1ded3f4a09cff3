-- What was put behind the others of a hart, taken back.
use Rattle.std.proofs.Common.{◌≡◌, ◌≢◌, ℕ, ◌-◌, ◌<◌, List, [], ◌∷◌, ◌++◌, get_or, length, take, set, length-set, get_or-set_same, get_or-set_other, arith}
use Rattle.std.proofs.Common.{refl, sym, ap, ◌∙◌}
use Rattle.std.proofs.lemmas.List.{get_or_default}
use Rattle.ft_types.specs.declared.names.TheConstants.{HART_ROW}
use Rattle.input_log.specs.declared.Input.{Input}
use Rattle.input_log.specs.declared.WaitingBell.{WaitingBell}
use Rattle.input_log.specs.Inputs.{AreAddedTo}
use Rattle.input_log.specs.Waiting.{Queues, empty, IsBellAddedTo}
use Rattle.input_log.proofs.Tables.{same_rows, front_left}

-- a table whose row of a hart is again that of another table, which has the same other rows
set_back : {A : Type 0} (d : A) (rows before : List A) (h : ℕ) (row : A) → length rows ≡ HART_ROW → length before ≡ HART_ROW → h < HART_ROW → row ≡ get_or before h d →
    ((other : ℕ) → other ≢ h → get_or rows other d ≡ get_or before other d) → set rows h row ≡ before
set_back d rows before h row wide wide' below here there =
    let within : h < length rows = omega arith in
    same_rows d (set rows h row) before h (length-set rows h row ∙ wide) wide' (get_or-set_same rows h row d within ∙ here)
    (λ other ne. get_or-set_other rows h other row d ne ∙ there other ne)

pub log_back : (rows before : List (List (ℕ × Input))) (h i many : ℕ) (added : List (ℕ × Input)) (row d : List (ℕ × Input)) → i ≡ h → length rows ≡ HART_ROW → i < HART_ROW →
    length added ≡ many → AreAddedTo before h added rows → row ≡ take (length (get_or rows i d) - many) (get_or rows i d) → set rows i row ≡ before
log_back rows before h i many added row d at wide below size was is =
    let within : i < length rows = omega arith in
    let here : get_or rows i d ≡ get_or before i [] ++ added = get_or_default rows i d [] within ∙ rw at was.row in
    set_back [] rows before i row wide was.harts below (is ∙ rw here (front_left (get_or before i []) added many size))
    (λ other ne. was.others other (λ e. ne (e ∙ sym at)))

same_queue : (a b : Queues) → a.bells ≡ b.bells → a.others ≡ b.others → a ≡ b
same_queue a b bells others =
    ap (λ xs. let q : Queues = record { bells = xs; others = a.others } in q) bells ∙
    ap (λ xs. let q : Queues = record { bells = b.bells; others = xs } in q) others

pub desk_back : (queues before : List Queues) (h i : ℕ) (bell : WaitingBell) (queue d : Queues) → i ≡ h → length queues ≡ HART_ROW → i < HART_ROW →
    IsBellAddedTo before h bell queues → queue ≡ record (get_or queues i d) { bells = take (length (get_or queues i d).bells - 1) (get_or queues i d).bells } →
    set queues i queue ≡ before
desk_back queues before h i bell queue d at wide below was is =
    let within : i < length queues = omega arith in
    let same : get_or queues i d ≡ get_or queues i empty = get_or_default queues i d empty within in
    let bells : (get_or queues i d).bells ≡ (get_or before i empty).bells ++ bell ∷ [] = ap (λ q. q.bells) same ∙ rw at was.bells in
    let others : (get_or queues i d).others ≡ (get_or before i empty).others = ap (λ q. q.others) same ∙ rw at was.others in
    set_back empty queues before i queue wide was.harts below
    (same_queue queue (get_or before i empty) (ap (λ q. q.bells) is ∙ rw bells (front_left (get_or before i empty).bells (bell ∷ []) 1 refl))
    (ap (λ q. q.others) is ∙ others))
    (λ other ne.
    same_queue (get_or queues other empty) (get_or before other empty) (was.bells_of_others other (λ e. ne (e ∙ sym at)))
    (was.others_of_others other (λ e. ne (e ∙ sym at))))

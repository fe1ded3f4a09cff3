use Rattle.std.proofs.Common.{arith, ◌≡◌, ◌≢◌, ◌-◌, ◌++◌, ℕ, List, ◌∷◌, [], length, length-append, replicate, get_or, ap, ◌∙◌, vec_len}
use Rattle.std.proofs.lemmas.List.{length-replicate}
use Rattle.input_log.specs.Notes.{NotesOfOne, nothing_noted}
use Rattle.input_log.proofs.NoteRows.{nothing_more, one_more}
use Rattle.input_log.proofs.note_log.NoteLog.add.Goals as goal

-- the rows before the new one
before : (c : goal.After-push_reserved) → List NotesOfOne
before c = c.reserve.new.self.items ++ replicate (c.index-index.result - vec_len c.reserve.new.self) nothing_noted

-- the others' rows are as they were
others : (c : goal.After-push_reserved) (other : ℕ) → other ≢ c.args.note.hart →
    get_or c.push_reserved.new.self.items other nothing_noted ≡ get_or c.args.self.now other nothing_noted
unfolding before
others c other apart =
    let many = vec_len c.reserve.new.self in
    let long : length (before c) ≡ c.args.note.hart =
    length-append c.reserve.new.self.items (replicate (c.index-index.result - many) nothing_noted)
    ∙ omega (
      arith,
      length-replicate (c.index-index.result - many) nothing_noted,
      c.if-index-len.false,
      c.index-index.ensures.value,
      ap length c.reserve.ensures.items,
    ) in
    ap (λ (rows : List NotesOfOne). get_or rows other nothing_noted) (c.push_reserved.ensures.items ∙
    ap (λ (rows : List NotesOfOne). rows ++ c.add-2.new.self ∷ []) c.add_rows.ensures.more)
    ∙ one_more (before c) c.add-2.new.self other (λ same. apart (same ∙ long))
    ∙ nothing_more c.reserve.new.self.items (c.index-index.result - many) other
    ∙ ap (λ (rows : List NotesOfOne). get_or rows other nothing_noted) (c.reserve.ensures.items ∙ c.self.view_is)

pub returns-clause-others_kept : goal.returns-clause-others_kept
returns-clause-others_kept c other apart = ap (λ (row : NotesOfOne). row.notes) (others c other apart)

pub returns-clause-others_room : goal.returns-clause-others_room
returns-clause-others_room c other apart room = ap (λ (row : NotesOfOne). row.spare) (others c other apart) ∙ room

-- What a store has at a key, and the join of two.
use Rattle.std.specs.Prelude.{Bool, Option, Some, None, if◌then◌else◌}

-- nothing, one content, or several that differ
pub data Cell (X : Type 0) : Type 0 where
  Absent : Cell X
  One : X → Cell X
  Clash : Cell X

-- Absent is the unit, equal contents stay, and unequal ones or any clash give a clash.
abbrev pub join_cell : {X : Type 0} → (X → X → Bool) → Cell X → Cell X → Cell X
join_cell same Absent b = b
join_cell same (One x) Absent = One x
join_cell same (One x) (One y) = if same x y then One x else Clash
join_cell same (One x) Clash = Clash
join_cell same Clash b = Clash

-- what a finite map has at a key whose value is None where contents clash
abbrev pub cell_of : {X : Type 0} → Option (Option X) → Cell X
cell_of None = Absent
cell_of (Some None) = Clash
cell_of (Some (Some x)) = One x

-- Terms as ballots: term (8 R + C) · 4096 + n is candidate C's of round R, renewed n times.
use Rattle.std.specs.Prelude.{ℕ, ◌+◌, ◌/◌, ◌%◌, ◌==◌, ◌&&◌, Bool, not, nat_lt, nat_le, if◌then◌else◌}
use Rattle.ballots.specs.declared.ballots.TheConstants.{CANDIDATES, BALLOT, FIRST_DEALT}

-- those below the first that is dealt are candidate 0's, a person's, and never renewed
abbrev pub candidate_of : ℕ → ℕ
candidate_of term = if nat_lt term FIRST_DEALT then 0 else term / BALLOT % CANDIDATES

abbrev pub renewal_of : ℕ → ℕ
renewal_of term = if nat_lt term FIRST_DEALT then 0 else term % BALLOT

-- the candidate may stand in the term: it is not 0, it is the candidate's, and no renewal
abbrev pub may_stand : ℕ → ℕ → Bool
may_stand candidate term = nat_lt 0 term && ((candidate_of term == candidate) && (renewal_of term == 0))

-- the term that follows is its renewal
abbrev pub has_next : ℕ → Bool
has_next term = nat_le FIRST_DEALT term && not ((term + 1) % BALLOT == 0)

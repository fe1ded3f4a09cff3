use Rattle.fragment_codec.proofs.Openings.{opens_from_boot}
use Rattle.fragment_codec.proofs.first_term.first_opening.Goals as goal

pub unwrap-requires : goal.unwrap-requires
unwrap-requires c =
    c.new.ensures.exact.1 (rw (c.zero-base.ensures, c.harts.ensures.value) (opens_from_boot c.args.guest c.harts.ensures.rules))

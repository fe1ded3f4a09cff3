use Rattle.std.proofs.Common.{sym, ◌∙◌}
use Rattle.debugging.proofs.Pointing.{bytes_read, makes_point, is_none}
use Rattle.debugging.proofs.points.read_point.Goals as goal

pub returns-in-Some-bytes : goal.returns-in-Some-bytes
returns-in-Some-bytes c = λ point is.
    let found = bytes_read c.args.text.now c.in-Some.kind c.in-Some.rest.now point c.read_bytes-bytes.result c.in-Some.ensures.some c.read_bytes-bytes.ensures is in
    makes_point c.in-Some.kind found.0 c.in-Some-bytes.bytes point c.point_of.result (sym found.1 ∙ c.in-Some-bytes.is) c.point_of.ensures.breaks c.point_of.ensures.writes
    c.point_of.ensures.reads c.point_of.ensures.accesses found.2

pub returns-in-None : goal.returns-in-None
returns-in-None c = λ point is.
    let found = bytes_read c.args.text.now c.in-Some.kind c.in-Some.rest.now point c.read_bytes-bytes.result c.in-Some.ensures.some c.read_bytes-bytes.ensures is in
    absurd (is_none found.0 (sym c.in-None.is ∙ found.1))

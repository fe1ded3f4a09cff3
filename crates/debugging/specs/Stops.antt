-- What gdb is told where a session stands.
use Rattle.std.specs.Prelude.{ℕ, ◌+◌, List, [], ◌∷◌, ◌++◌, drop, codes}
use Rattle.ft_types.specs.Text.{word}
use Rattle.moments.specs.declared.points.Point.{Point}
use Rattle.moments.specs.declared.points.Point.TheVariants.{Break, Watch}
use Rattle.moments.specs.declared.points.Watched.{Watched}
use Rattle.moments.specs.declared.points.Watched.TheVariants.{Read, Write, Access}
use Rattle.debugging.specs.declared.stops.Reason.{Reason}
use Rattle.debugging.specs.declared.stops.Reason.TheVariants.{Led, Point as AtPoint, Begin, End}

-- threads are numbered from 1 on: two digits to the base 16
abbrev pub thread_text : ℕ → List ℕ
thread_text hart = drop 6 (word (hart + 1))

abbrev pub watched_name : Watched → List ℕ
watched_name Write = codes "watch:"
watched_name Read = codes "rwatch:"
watched_name Access = codes "awatch:"

-- the point, with the address that it watches
abbrev pub point_text : Point → List ℕ
point_text (Break address) = codes "swbreak:;"
point_text (Watch watched bytes) = watched_name watched ++ word bytes.first ++ codes ";"

abbrev pub reason_text : Reason → List ℕ
reason_text Led = []
reason_text (AtPoint point) = point_text point
reason_text Begin = codes "replaylog:begin;"
reason_text End = codes "replaylog:end;"

-- why it stands, and the thread
abbrev pub stop_text : ℕ → Reason → List ℕ
stop_text hart reason = codes "T05" ++ reason_text reason ++ codes "thread:" ++ thread_text hart ++ codes ";"

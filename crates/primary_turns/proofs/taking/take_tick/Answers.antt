use Rattle.std.proofs.Common.{map, refl}
use Rattle.primary_turns.specs.declared.deeds.Deed.TheVariants.{Attend}
use Rattle.primary_turns.proofs.Adding.{findings_note_nothing}
use Rattle.primary_turns.proofs.taking.take_tick.Goals as goal

pub returns : goal.returns
returns c =
    let all = c.deref.result.now in (
      map Attend all,
      c.in_ok-attend_all.ensures,
      record {
        becomes = (refl, (all, refl));
        told = findings_note_nothing c.args.notes.now.told (map Attend all) (all, refl);
        ahead = refl;
      },
    )

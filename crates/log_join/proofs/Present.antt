-- Whether anything came to a key.
use Rattle.std.proofs.Common.{refl}
use Rattle.std.specs.Prelude.{◌≢◌, Option, Some, None, IsSome}
use Rattle.fragment_codec.specs.declared.frame.Frame.{Frame}
use Rattle.frame_content.specs.declared.content.Content.{Content}
use Rattle.log_join.specs.Cells.{Absent, cell_of}
use Rattle.log_join.specs.machinery.Contents.{content_of}
use Rattle.log_join.proofs.Shown.{cell}

module _ {X : Type 0} (part : Frame → Option X) where
  pub some_there : (c : Option Content) → cell part c ≢ Absent → IsSome c
  some_there None h = absurd (h refl)
  some_there (Some c) h = refl

  value_there : (v : Option X) → cell_of (Some v) ≢ Absent
  value_there None e = cc e
  value_there (Some x) e = cc e

  pub there_some : (c : Option Content) → IsSome c → cell part c ≢ Absent
  there_some None h e = cc h
  there_some (Some c) h e = value_there (content_of part c) e

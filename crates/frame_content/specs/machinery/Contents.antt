-- What there is at a key: one frame, or unequal ones.
use Rattle.std.specs.Prelude.{Bool, true, false, if◌then◌else◌}
use Rattle.fragment_codec.specs.declared.frame.Frame.{Frame}
use Rattle.fragment_codec.specs.declared.frame.Frame.TheVariants.{Log, Opening}
use Rattle.frame_content.specs.declared.content.Content.{Content}
use Rattle.frame_content.specs.declared.content.Content.TheVariants.{One, Clash}
use Rattle.frame_content.specs.Tests.{same_opening, same_fragment}

abbrev pub same_frame : Frame → Frame → Bool
same_frame (Log a) (Log b) = same_fragment a b
same_frame (Opening a) (Opening b) = same_opening a b
same_frame a b = false

-- the content is this frame alone
abbrev pub holds : Content → Frame → Bool
holds (One x) y = same_frame x y
holds Clash y = false

abbrev pub clashes : Content → Bool
clashes (One x) = false
clashes Clash = true

-- two contents of one key, joined
abbrev pub joined : Content → Content → Content
joined (One x) (One y) = if same_frame x y then One x else Clash
joined a b = Clash

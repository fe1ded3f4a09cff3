use Rattle.debugging.proofs.Showing.{text_of_bytes}
use Rattle.debugging.proofs.memory.memory_text.Goals as goal

pub returns : goal.returns
returns c = text_of_bytes (λ t. t.items) c.bytes_text.result _ _ _ c.as_slice.result.now (rw c.as_slice.ensures.value c.in_ok-bytes.ensures) c.bytes_text.ensures

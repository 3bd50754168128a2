use Rattle.std.proofs.Common.{sym, subst}
use Rattle.ndx_index.specs.PagedIndex.{HoldsIndex}
use Rattle.ndx_index.proofs.PagedLaws.{holds_nothing}
use Rattle.ndx_index.proofs.index.OrderedIndex.new.Goals as goal

pub invariant_of-result : goal.invariant_of-result
invariant_of-result c = subst (λ a. HoldsIndex c.new.result.key_len a (record { head = 0; count = 0 }) (record { page = 0; levels = 0 })) (sym c.new.ensures.pages) (holds_nothing c.new.result.key_len)

use Rattle.std.proofs.Common.{◌≡◌, List, ℕ, Option, Some, sym, subst}
use Rattle.std.specs.Prelude.{IfOk}
use Rattle.dbf_image.proofs.StoreLaws.{low_held, low_text}
use Rattle.dbf_image.proofs.memo_store.MemoStore.text.Goals as goal

pub text-requires : goal.text-requires
text-requires c = record { held = low_held c.self.inside _ c.args.number c.self.view_is c.if-number-lt-FILE_TEXTS.true c.requires.held }

pub returns-then-number-lt-FILE_TEXTS : goal.returns-then-number-lt-FILE_TEXTS
returns-then-number-lt-FILE_TEXTS c =
    record { value = subst (λ (o : Option (List ℕ)). IfOk c.text.result (λ text. o ≡ Some text)) (sym (low_text c.self.inside _ c.args.number c.self.view_is c.if-number-lt-FILE_TEXTS.true)) c.text.ensures.value }

use Rattle.std.proofs.Common.{List, [], ℕ, Option, length, ap, sym, ◌∙◌}
use Rattle.std.specs.Prelude.{unwrap_or}
use Rattle.dbf_image.proofs.StoreLaws.{low_held, low_text}
use Rattle.dbf_image.proofs.memo_store.MemoStore.text_length.Goals as goal

pub text_length-requires : goal.text_length-requires
text_length-requires c = record { held = low_held c.self.inside _ c.args.number c.self.view_is c.if-number-lt-FILE_TEXTS.true c.requires.held }

pub returns-then-number-lt-FILE_TEXTS : goal.returns-then-number-lt-FILE_TEXTS
returns-then-number-lt-FILE_TEXTS c =
    record { value = c.text_length.ensures.value ∙ ap (λ (o : Option (List ℕ)). length (unwrap_or o [])) (sym (low_text c.self.inside _ c.args.number c.self.view_is c.if-number-lt-FILE_TEXTS.true)) }

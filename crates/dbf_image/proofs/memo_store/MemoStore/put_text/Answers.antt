use Rattle.dbf_image.proofs.StoreLaws.{low_held, low_text}
use Rattle.dbf_image.proofs.memo_store.MemoStore.put_text.Goals as goal

pub put_text-requires : goal.put_text-requires
put_text-requires g c = record { held = low_held c.self.inside _ c.args.number c.self.view_is c.if-number-lt-FILE_TEXTS.true c.requires.held }

pub returns-then-number-lt-FILE_TEXTS : goal.returns-then-number-lt-FILE_TEXTS
returns-then-number-lt-FILE_TEXTS g c =
    record { put = rw (low_text c.self.inside c.args.self.now c.args.number c.self.view_is c.if-number-lt-FILE_TEXTS.true) c.put_text.ensures.put }

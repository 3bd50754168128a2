use Rattle.std.proofs.Common.{◌++◌, refl}
use Rattle.std.specs.Prelude.{codes}
use Rattle.setup_check.proofs.AppendLaws.{appended}
use Rattle.setup_check.proofs.reasons.append_setup_reason.Goals as goal

pub returns-in-SmallLetters : goal.returns-in-SmallLetters
returns-in-SmallLetters c = record { ok = rw c.in-SmallLetters.is c.append_after.ensures.ok }

pub returns-in-UnknownWord : goal.returns-in-UnknownWord
returns-in-UnknownWord c = record { ok = rw c.in-UnknownWord.is c.append_after-in-UnknownWord.ensures.ok }

pub returns-in-WordMissing : goal.returns-in-WordMissing
returns-in-WordMissing c = record { ok = rw c.in-WordMissing.is (appended c.extend_from_slice-in-WordMissing.result c.extend_from_slice-in-WordMissing.new.self.items c.args.text.now.items (codes "a word is missing") (c.args.text.now.items ++ codes "a word is missing") c.extend_from_slice-in-WordMissing.ensures.items refl) }

pub returns-in-NoName : goal.returns-in-NoName
returns-in-NoName c = record { ok = rw c.in-NoName.is c.append_after-in-NoName.ensures.ok }

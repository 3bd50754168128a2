use Rattle.std.proofs.Common.{◌∷◌, [], List, ℕ, take, sym, ◌∙◌}
use Rattle.std.specs.List.{flat_map}
use Rattle.std.proofs.lemmas.List.{append-nil}
use Rattle.table_text.specs.declared.format.TheConstants.{QUOTE}
use Rattle.table_text.specs.Quoted.{byte_between_quotes}
use Rattle.table_text.proofs.Kept.{kept_by, kept_after}
use Rattle.table_text.proofs.quoted.append_between_quotes.Goals as goal

pub returns-in_err-push-clause-kept : goal.returns-in_err-push-clause-kept
returns-in_err-push-clause-kept c = kept_by _ _ _ [] (c.in_err-push.ensures.items ∙ sym (append-nil _))

pub returns-in_err-extend_from_slice-clause-kept : goal.returns-in_err-extend_from_slice-clause-kept
returns-in_err-extend_from_slice-clause-kept c =
    let shown : List ℕ = flat_map byte_between_quotes (take c.loop-byte.byte-index c.args.bytes.now) in
    kept_after _ c.args.text.now.items c.loop-byte.text.items _ (QUOTE ∷ []) shown c.loop-byte.invariant c.in_err-extend_from_slice.ensures.items

pub returns-in_err-push-2-clause-kept : goal.returns-in_err-push-2-clause-kept
returns-in_err-push-2-clause-kept c =
    let shown : List ℕ = flat_map byte_between_quotes (take c.loop-byte.byte-index c.args.bytes.now) in
    kept_after _ c.args.text.now.items c.loop-byte.text.items _ (QUOTE ∷ []) shown c.loop-byte.invariant c.in_err-push-2.ensures.items

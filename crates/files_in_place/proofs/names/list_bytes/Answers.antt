use Rattle.std.proofs.Common.{◌≡◌, length, rules}
use Rattle.files_in_place.specs.Folder.{end_line}
use Rattle.files_in_place.proofs.NameLists.{ended_list}
use Rattle.files_in_place.proofs.names.list_bytes.Goals as goal

pub returns : goal.returns
returns c =
    let last : c.as_bytes.result.now ≡ end_line (length c.args.names.now) = search rules in
    record { value = ended_list c.args.names.now _ _ _ _ c.in_ok-list.ensures.value last c.in_ok-extend_from_slice.ensures.items c.in_ok-push.ensures.items }

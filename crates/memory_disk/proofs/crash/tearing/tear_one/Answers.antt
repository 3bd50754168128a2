use Rattle.std.proofs.Common.{◌≡◌, ◌∙◌, sym, true, rules}
use Rattle.memory_disk.specs.Seen.{seen_after}
use Rattle.memory_disk.proofs.Tearing.{tears}
use Rattle.memory_disk.proofs.crash.tearing.tear_one.Goals as goal

pub returns : goal.returns
returns c =
    let is : c.in_ok-is_torn.field-0 ≡ true = search rules in
    record { kept = tears c.args.calls.now c.args.name.now (seen_after c.args.left.now.items) (seen_after c.tear_file.new.left.items) (sym c.in_ok-is_torn.ensures.torn ∙ is) c.in_ok-tear_file.ensures.others }

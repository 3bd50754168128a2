use Rattle.setup_check.proofs.look.look_at_index.Goals as goal

pub returns : goal.returns
returns c = record {
  finding = λ files before findings ndx are h k own. (c.args.file.now, own, c.len.ensures.count, c.in_ok-state.ensures.state files before findings are h k);
}

use Rattle.setup_check.proofs.look.look_at_content.Goals as goal

pub returns-in_ok-index-in-Index-Index : goal.returns-in_ok-index-in-Index-Index
returns-in_ok-index-in-Index-Index c = record {
  finding = λ files before findings are h k own.
      let index = c.in-Index-Index in
      let file = rw (index.is-0, index.is-1) at own in
      rw index.is-0 (c.in_ok-index-in-Index-Index.ensures.finding files before findings index.ndx-0 are h k file);
}

use Rattle.ndx_index.proofs.pages.append.+append_under.Given as goal

abbrev pub decreases-append_under : goal.decreases-append_under
decreases-append_under l = l.level

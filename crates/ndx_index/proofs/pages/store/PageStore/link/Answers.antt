use Rattle.std.proofs.Common.{ℕ, List, get_or, ap, sym, ◌∙◌, arith}
use Rattle.std.proofs.lemmas.List.{get_or-map}
use Rattle.ndx_index.specs.declared.pair.Pair.{Pair}
use Rattle.ndx_index.specs.PairPages.{page_at}
use Rattle.ndx_index.specs.Slots.{no_pair}
use Rattle.ndx_index.proofs.TwinLaws.{is_twin}
use Rattle.ndx_index.proofs.pages.store.PageStore.link.Goals as goal

pub number-requires : goal.number-requires
number-requires c =
    let twin = is_twin c.self.view_is c.self.invariant c.requires.page in
    record { page = twin.links_index; place = omega (arith, twin.link_count, c.requires.place) }

pub returns : goal.returns
returns c =
    let twin = is_twin c.self.view_is c.self.invariant c.requires.page in
    let own = page_at c.self.inside.link_pages.pages c.args.page in
    record {
      link = c.number.ensures.number
          ∙ sym (get_or-map (λ (q : Pair). q.number) own c.args.at no_pair 0 (omega (arith, twin.link_count, c.requires.place)))
          ∙ ap (λ (l : List ℕ). get_or l c.args.at 0) (sym twin.links);
    }

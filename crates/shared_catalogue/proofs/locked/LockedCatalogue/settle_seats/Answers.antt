use Rattle.std.proofs.Common.{◌≡◌, ◌≤◌, List, length, vec_len, Ok, sym, ap, ◌∙◌, subst, arith, rules}
use Rattle.std.specs.Prelude.{All}
use Rattle.std.specs.List.{sum_by}
use Rattle.crossbeam_utils.specs.Seq.{cell_view}
use Rattle.catalogue_core.specs.Replay.{History}
use Rattle.shared_catalogue.specs.declared.board.Known.{Known}
use Rattle.shared_catalogue.specs.declared.board.View.{View}
use Rattle.shared_catalogue.specs.Board.{all_of}
use Rattle.shared_catalogue.specs.Seats.{Seated, AreSeated, IsLowestMissing, IsWithin, IsOwn, AgreesWith}
use Rattle.shared_catalogue.specs.StatusRows.{status_rows}
use Rattle.shared_catalogue.proofs.ReceiptLaws.{settled}
use Rattle.shared_catalogue.proofs.SeatLaws.{enough, missing_here, missing_nowhere}
use Rattle.shared_catalogue.proofs.locked.LockedCatalogue.settle_seats.Goals as goal

pub returns-in-Some-clause-missing : goal.returns-in-Some-clause-missing
returns-in-Some-clause-missing g c =
    let zs = c.args.seats.items in
    let stations : c.station_count.result ≡ g.J.Naming.opened.stations = search rules in
    let some : IsLowestMissing c.deref.result.now c.station_count.result c.in-Some.station = c.in-Some.ensures.some in
    missing_here zs g.J.Naming.opened.stations c.in-Some.station (subst (λ n. IsLowestMissing zs n c.in-Some.station) stations (subst (λ (l : List Seated). IsLowestMissing l c.station_count.result c.in-Some.station) c.deref.ensures.value some))

pub returns-clause-missing : goal.returns-clause-missing
returns-clause-missing g c =
    let zs = c.args.seats.items in
    let stations : c.station_count.result ≡ g.J.Naming.opened.stations = search rules in
    let none : AreSeated c.deref.result.now c.station_count.result = c.in_default.ensures.none in
    let all : AreSeated zs g.J.Naming.opened.stations = subst (AreSeated zs) stations (subst (λ (l : List Seated). AreSeated l c.station_count.result) c.deref.ensures.value none) in
    missing_nowhere (Ok c.new.result) zs g.J.Naming.opened.stations (λ s e. cc) all

pub returns-clause-seated : goal.returns-clause-seated
returns-clause-seated g c =
    let zs = c.args.seats.items in
    let stations : c.station_count.result ≡ g.J.Naming.opened.stations = search rules in
    let none : AreSeated c.deref.result.now c.station_count.result = c.in_default.ensures.none in
    subst (AreSeated zs) stations (subst (λ (l : List Seated). AreSeated l c.station_count.result) c.deref.ensures.value none)

pub returns-clause-counted : goal.returns-clause-counted
returns-clause-counted g c =
    let zs = c.args.seats.items in
    let stations : c.station_count.result ≡ g.J.Naming.opened.stations = search rules in
    let none : AreSeated c.deref.result.now c.station_count.result = c.in_default.ensures.none in
    let many : c.station_count.result ≤ length zs = enough c.station_count.result zs (subst (λ (l : List Seated). AreSeated l c.station_count.result) c.deref.ensures.value none) in
    let len : vec_len c.args.seats ≡ length zs = search rules in
    let whole : c.gather-whole.result.parts ≡ g.J.Ledger.parts = omega (arith, c.gather-whole.ensures.parts, c.gather-whole.ensures.most, c.requires.parts, stations, many, len) in
    ap (λ (h : History). length h.journal) c.new.ensures.value ∙ sym (c.audit.ensures.whole whole ∙ c.self.invariant.counted) ∙ c.gather-whole.ensures.amount

pub returns-clause-own : goal.returns-clause-own
returns-clause-own g c =
    let zs = c.args.seats.items in
    let h = c.self.inside.catalogue in
    let n = g.J.Naming.opened.stations in
    let stations : c.station_count.result ≡ n = search rules in
    let none : AreSeated c.deref.result.now c.station_count.result = c.in_default.ensures.none in
    let all : AreSeated zs n = subst (AreSeated zs) stations (subst (λ (l : List Seated). AreSeated l c.station_count.result) c.deref.ensures.value none) in
    let many : n ≤ length zs = enough n zs all in
    let len : vec_len c.args.seats ≡ length zs = search rules in
    let each : length zs ≡ n = omega (arith, c.gather-whole.ensures.parts, c.gather-whole.ensures.most, c.requires.parts, many, len) in
    let whole : c.gather-whole.result.parts ≡ g.J.Ledger.parts = omega (arith, c.gather-whole.ensures.parts, c.requires.parts, each, len) in
    let counted : length h.journal ≡ sum_by (λ (z : Seated). z.share) zs = sym (c.audit.ensures.whole whole ∙ c.self.invariant.counted) ∙ c.gather-whole.ensures.amount in
    let known : (cell_view c.self.inside.pass).known ≡ all_of h = ap (λ (v : View). v.known) c.self.invariant.all in
    let within : All (IsWithin (all_of h)) zs = subst (λ (k : Known). All (IsWithin k) zs) known c.gather-whole.ensures.within in
    let both = settled h n zs all each counted within in
    subst (λ (k : History). All (IsOwn k.journal) zs) (sym c.new.ensures.value) both.1

pub returns-clause-agrees : goal.returns-clause-agrees
returns-clause-agrees g c =
    let zs = c.args.seats.items in
    let h = c.self.inside.catalogue in
    let n = g.J.Naming.opened.stations in
    let stations : c.station_count.result ≡ n = search rules in
    let none : AreSeated c.deref.result.now c.station_count.result = c.in_default.ensures.none in
    let all : AreSeated zs n = subst (AreSeated zs) stations (subst (λ (l : List Seated). AreSeated l c.station_count.result) c.deref.ensures.value none) in
    let many : n ≤ length zs = enough n zs all in
    let len : vec_len c.args.seats ≡ length zs = search rules in
    let each : length zs ≡ n = omega (arith, c.gather-whole.ensures.parts, c.gather-whole.ensures.most, c.requires.parts, many, len) in
    let whole : c.gather-whole.result.parts ≡ g.J.Ledger.parts = omega (arith, c.gather-whole.ensures.parts, c.requires.parts, each, len) in
    let counted : length h.journal ≡ sum_by (λ (z : Seated). z.share) zs = sym (c.audit.ensures.whole whole ∙ c.self.invariant.counted) ∙ c.gather-whole.ensures.amount in
    let known : (cell_view c.self.inside.pass).known ≡ all_of h = ap (λ (v : View). v.known) c.self.invariant.all in
    let within : All (IsWithin (all_of h)) zs = subst (λ (k : Known). All (IsWithin k) zs) known c.gather-whole.ensures.within in
    let both = settled h n zs all each counted within in
    subst (λ (k : History). All (AgreesWith (status_rows k)) zs) (sym c.new.ensures.value) both.0

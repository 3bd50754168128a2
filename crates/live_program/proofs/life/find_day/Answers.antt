use Rattle.std.proofs.Common.{◌∙◌, inr, inl, refl}
use Rattle.live_log.proofs.Reading.{still_clean, still_synced}
use Rattle.live_program.proofs.FailureLaws.{refused_start, told_end_of, unopened_tables}
use Rattle.live_program.proofs.LifeLaws.{read_leaves}
use Rattle.live_program.proofs.life.find_day.Goals as goal

pub returns-clause-synced : goal.returns-clause-synced
returns-clause-synced g c promised =
    let only = c.find_log.ensures.only in
    still_synced g.D.Disk.meaning c.args.disk.now c.find_log.new.disk only.seen only.crash only.whole (c.requires.synced promised)

pub returns-clause-clean : goal.returns-clause-clean
returns-clause-clean g c promised = still_clean g.D.Disk.meaning c.args.disk.now c.find_log.new.disk c.find_log.ensures.only.seen (c.requires.clean promised)

pub returns-clause-found : goal.returns-clause-found
returns-clause-found g c promised = record {
  opened = rw c.in_ok-whole.ensures.opened (rw (c.in_ok-setup.ensures.value, c.as_bytes.ensures.value, c.warn_of_kept_files.ensures.kept) at c.in_ok-opened.ensures.opened);
  read = c.in_ok-opened.opened.read.items;
  known = rw (c.in_ok-setup.ensures.value, c.as_bytes.ensures.value, c.warn_of_kept_files.ensures.kept) at c.in_ok-opened.ensures.read;
  head_is = rw c.deref-2.ensures.value at c.in_ok-head.ensures.value;
  body = c.in_ok-told.told.body.now;
  behind = rw (c.deref.ensures.value, c.as_slice.ensures.value, c.in_ok-found.ensures.bytes promised) at c.in_ok-told.ensures.behind;
  log = c.in_ok-whole.ensures.stands;
  legal = c.in_ok-whole.ensures.legal;
  of_stations = c.in_ok-whole.ensures.of_stations;
}

pub returns-clause-tables : goal.returns-clause-tables
returns-clause-tables g c = rw c.in_ok-whole.ensures.opened (rw (c.in_ok-setup.ensures.value, c.as_bytes.ensures.value, c.warn_of_kept_files.ensures.kept) at c.in_ok-opened.ensures.opened)

pub returns-in_err-setup-clause-fault : goal.returns-in_err-setup-clause-fault
returns-in_err-setup-clause-fault g c =
    told_end_of _ _ _ c.from_residual.ensures.1 (refused_start g.D.Disk.meaning (g.D.Disk.meaning.seen c.args.disk.now) (g.S.Source.files c.args.source.now) c.args.options.now)

pub returns-in_err-name-clause-fault : goal.returns-in_err-name-clause-fault
returns-in_err-name-clause-fault g c =
    told_end_of _ _ _ c.from_residual-in_err-name.ensures.1 (refused_start g.D.Disk.meaning (g.D.Disk.meaning.seen c.args.disk.now) (g.S.Source.files c.args.source.now) c.args.options.now)

pub returns-in_err-said-clause-fault : goal.returns-in_err-said-clause-fault
returns-in_err-said-clause-fault g c =
    told_end_of _ _ _ c.from_residual-in_err-said.ensures.1 (refused_start g.D.Disk.meaning (g.D.Disk.meaning.seen c.args.disk.now) (g.S.Source.files c.args.source.now) c.args.options.now)

pub returns-in_err-warn_of_kept_files-clause-fault : goal.returns-in_err-warn_of_kept_files-clause-fault
returns-in_err-warn_of_kept_files-clause-fault g c =
    told_end_of _ _ _ c.from_residual-in_err-warn_of_kept_files.ensures.1 (unopened_tables g.D.Disk.meaning (g.D.Disk.meaning.seen c.args.disk.now) (g.S.Source.files c.args.source.now) c.args.options.now _
    (rw (c.in_ok-setup.ensures.value, c.as_bytes.ensures.value) at c.in_err-warn_of_kept_files.ensures.fault))

pub returns-in_err-opened-clause-fault : goal.returns-in_err-opened-clause-fault
returns-in_err-opened-clause-fault g c =
    told_end_of _ _ _ c.from_residual-in_err-opened.ensures.1
    (inl (record { fault = c.in_err-opened.field-0.0; unopened = rw (c.in_ok-setup.ensures.value, c.as_bytes.ensures.value, c.warn_of_kept_files.ensures.kept) at c.in_err-opened.ensures.fault; why_is = refl }))

pub returns-in_err-whole-clause-fault : goal.returns-in_err-whole-clause-fault
returns-in_err-whole-clause-fault g c =
    told_end_of _ _ _ c.from_residual-in_err-whole.ensures.1
    (inr (inl (record {
      opened = c.in_ok-opened.opened.catalogue.opened;
      tables = rw (c.in_ok-setup.ensures.value, c.as_bytes.ensures.value, c.warn_of_kept_files.ensures.kept) at c.in_ok-opened.ensures.opened;
      read = c.in_ok-opened.opened.read.items;
      known = rw (c.in_ok-setup.ensures.value, c.as_bytes.ensures.value, c.warn_of_kept_files.ensures.kept) at c.in_ok-opened.ensures.read;
      earlier = c.in_ok-told.told.earlier;
      body = c.in_ok-told.told.body.now;
      behind = λ promised. rw (c.deref.ensures.value, c.as_slice.ensures.value, c.in_ok-found.ensures.bytes promised) at c.in_ok-told.ensures.behind;
      fault = c.in_err-whole.field-0.0;
      told = c.in_err-whole.ensures.refused;
      why_is = refl;
    })))

pub returns-clause-warned : goal.returns-clause-warned
returns-clause-warned g c = rw (c.in_ok-setup.ensures.value, c.as_bytes.ensures.value) at c.warn_of_kept_files.ensures.said

pub returns-in_err-said-clause-warned : goal.returns-in_err-said-clause-warned
returns-in_err-said-clause-warned g c = rw (c.in_ok-setup.ensures.value, c.as_bytes.ensures.value) at c.warn_of_kept_files.ensures.said

pub returns-in_err-warn_of_kept_files-clause-warned : goal.returns-in_err-warn_of_kept_files-clause-warned
returns-in_err-warn_of_kept_files-clause-warned g c = rw (c.in_ok-setup.ensures.value, c.as_bytes.ensures.value) at c.warn_of_kept_files.ensures.said

pub returns-in_err-opened-clause-warned : goal.returns-in_err-opened-clause-warned
returns-in_err-opened-clause-warned g c = rw (c.in_ok-setup.ensures.value, c.as_bytes.ensures.value) at c.warn_of_kept_files.ensures.said

pub returns-in_err-whole-clause-warned : goal.returns-in_err-whole-clause-warned
returns-in_err-whole-clause-warned g c = rw (c.in_ok-setup.ensures.value, c.as_bytes.ensures.value) at c.warn_of_kept_files.ensures.said

pub returns-in_err-found-clause-warned : goal.returns-in_err-found-clause-warned
returns-in_err-found-clause-warned g c = rw (c.in_ok-setup.ensures.value, c.as_bytes.ensures.value) at c.warn_of_kept_files.ensures.said

pub returns-in_err-found-clause-fault : goal.returns-in_err-found-clause-fault
returns-in_err-found-clause-fault g c = told_end_of _ _ _ c.from_residual-in_err-found.ensures.1 (inr (inr (inl (inl (c.in_err-found.field-0.0, refl)))))

pub returns-clause-any_moment : goal.returns-clause-any_moment
returns-clause-any_moment g c = read_leaves g.D.Disk.meaning c.args.disk.now c.find_log.new.disk c.find_log.ensures.only

pub returns-in_err-found-clause-any_moment : goal.returns-in_err-found-clause-any_moment
returns-in_err-found-clause-any_moment g c = read_leaves g.D.Disk.meaning c.args.disk.now c.find_log.new.disk c.find_log.ensures.only

pub returns-in_err-whole-clause-any_moment : goal.returns-in_err-whole-clause-any_moment
returns-in_err-whole-clause-any_moment g c = read_leaves g.D.Disk.meaning c.args.disk.now c.find_log.new.disk c.find_log.ensures.only

pub returns-in_err-said-clause-any_moment : goal.returns-in_err-said-clause-any_moment
returns-in_err-said-clause-any_moment g c = read_leaves g.D.Disk.meaning c.args.disk.now c.find_log.new.disk c.find_log.ensures.only

pub returns-in_err-told-clause-warned : goal.returns-in_err-told-clause-warned
returns-in_err-told-clause-warned g c = rw (c.in_ok-setup.ensures.value, c.as_bytes.ensures.value) at c.warn_of_kept_files.ensures.said

pub returns-in_err-told-clause-any_moment : goal.returns-in_err-told-clause-any_moment
returns-in_err-told-clause-any_moment g c = read_leaves g.D.Disk.meaning c.args.disk.now c.find_log.new.disk c.find_log.ensures.only

pub returns-in_err-head-clause-warned : goal.returns-in_err-head-clause-warned
returns-in_err-head-clause-warned g c = rw (c.in_ok-setup.ensures.value, c.as_bytes.ensures.value) at c.warn_of_kept_files.ensures.said

pub returns-in_err-head-clause-any_moment : goal.returns-in_err-head-clause-any_moment
returns-in_err-head-clause-any_moment g c = read_leaves g.D.Disk.meaning c.args.disk.now c.find_log.new.disk c.find_log.ensures.only

pub returns-in_err-log-clause-warned : goal.returns-in_err-log-clause-warned
returns-in_err-log-clause-warned g c = rw (c.in_ok-setup.ensures.value, c.as_bytes.ensures.value) at c.warn_of_kept_files.ensures.said

pub returns-in_err-log-clause-any_moment : goal.returns-in_err-log-clause-any_moment
returns-in_err-log-clause-any_moment g c = read_leaves g.D.Disk.meaning c.args.disk.now c.find_log.new.disk c.find_log.ensures.only

pub returns-in_err-head-clause-fault : goal.returns-in_err-head-clause-fault
returns-in_err-head-clause-fault g c =
    told_end_of _ _ _ c.from_residual-in_err-head.ensures.1 (refused_start g.D.Disk.meaning (g.D.Disk.meaning.seen c.args.disk.now) (g.S.Source.files c.args.source.now) c.args.options.now)

pub returns-in_err-log-clause-fault : goal.returns-in_err-log-clause-fault
returns-in_err-log-clause-fault g c =
    told_end_of _ _ _ c.from_residual-in_err-log.ensures.1 (refused_start g.D.Disk.meaning (g.D.Disk.meaning.seen c.args.disk.now) (g.S.Source.files c.args.source.now) c.args.options.now)

pub returns-in_err-told-clause-fault : goal.returns-in_err-told-clause-fault
returns-in_err-told-clause-fault g c =
    told_end_of _ _ _ c.from_residual-in_err-told.ensures.1
    (inr (inr (inr (record {
      read = c.in_ok-opened.opened.read.items;
      known = rw (c.in_ok-setup.ensures.value, c.as_bytes.ensures.value, c.warn_of_kept_files.ensures.kept) at c.in_ok-opened.ensures.read;
      log = c.as_slice.result.now;
      there = λ promised. c.as_slice.ensures.value ∙ c.in_ok-found.ensures.bytes promised;
      told = rw c.deref.ensures.value at c.in_err-told.ensures.fault;
    }))))

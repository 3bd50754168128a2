-- A group that is put to a log in a folder.
use Rattle.std.proofs.Common.{◌≡◌, inl, inr, ℕ, ◌+◌, ◌≤◌, List, [], ◌∷◌, ◌++◌, length, take, drop, Option, Some, None, option_map, sym, ◌∙◌, ap, subst, arith, length-append, ◌^◌}
use Rattle.files_in_place.specs.Folder.{Name, Folder, SameBut}
use Rattle.files_in_place.specs.Disk.{DiskMeaning, IsSyncedDisk, LeavesOnly}
use Rattle.files_in_place.specs.Recovery.{IsClean}
use Rattle.files_in_place.proofs.Meaning.{same_name}
use Rattle.files_in_place.proofs.Runs.{started}
use Rattle.files_in_place.proofs.Uncommitted.{some_inj}
use Rattle.live_log.specs.declared.gates.TheConstants.{OPEN_GATE, SHUT_GATE}
use Rattle.live_log.specs.Gates.{LineParts, gated, log_of, IsGroup, IsWholeLog}
use Rattle.disk_in_place.specs.InPlace.{HasBytes, written_over, MayTear}
use Rattle.live_log.specs.Logs.{HasLog, IsLogPut, IsBetweenGroups}
use Rattle.live_log.proofs.GateLaws.{after_shut, small-append, gated-append, gated-rest}
use Rattle.live_log.proofs.Tearing.{length-log_of, torn_after, written_after, length-staged, torn_gate, written_gate, length-both}

-- the group without its first gate
pub first_gate : (group : List LineParts) (bytes : List ℕ) → IsGroup group bytes → OPEN_GATE ∷ drop 1 bytes ≡ log_of group
first_gate [] bytes g = absurd (omega (arith, g.some))
first_gate (e ∷ es) bytes g = ap (λ (l : List ℕ). OPEN_GATE ∷ drop 1 l) g.is

pub first_is : (group : List LineParts) (bytes : List ℕ) → IsGroup group bytes → take 1 bytes ≡ OPEN_GATE ∷ []
first_is [] bytes g = absurd (omega (arith, g.some))
first_is (e ∷ es) bytes g = ap (λ (l : List ℕ). take 1 l) g.is

pub group_fits : (group : List LineParts) (bytes : List ℕ) → IsGroup group bytes → 1 ≤ length bytes
group_fits group bytes g = omega (arith, ap length g.is, length-log_of group)

module _ {D : Type 0} (m : DiskMeaning D) (name : Name) (offset : ℕ) (old : D) (b : IsBetweenGroups m name offset old) where
  ends : (head : List ℕ) (es : List LineParts) → HasLog name head es (m.seen old) → offset ≡ length head + length (gated es [])
  ends head es log =
      omega (
        arith,
        b.offset_is,
        ap length (some_inj (head ++ log_of es) (b.head ++ log_of b.entries) (sym log.there ∙ b.log.there)),
        length-append head (log_of es),
        length-append b.head (log_of b.entries),
        length-log_of es,
        length-log_of b.entries,
      )

  -- a group that doesn't fit beside the log
  pub too_long : (head : List ℕ) (es group : List LineParts) (bytes : List ℕ) → HasLog name head es (m.seen old) → IsGroup group bytes → 2 ^ 64 ≤ offset + length bytes
      → 2 ^ 64 ≤ length head + length (log_of (es ++ group))
  too_long head es group bytes log g too =
      omega (
        arith,
        ends head es log,
        ap length g.is,
        length-log_of group,
        length-log_of (es ++ group),
        ap length (gated-append es group []),
        ap length (gated-rest es (gated group [])),
        length-append (gated es []) (gated group []),
      )

  pub after_fits : HasBytes (offset + 1) (m.seen old name)
  after_fits = subst (HasBytes (offset + 1)) (sym b.log.there) (omega (arith, b.offset_is, length-append b.head (log_of b.entries), length-log_of b.entries))

  module _ (head : List ℕ) (es group : List LineParts) (bytes : List ℕ) (log : HasLog name head es (m.seen old)) (g : IsGroup group bytes) where
    pub nothing_yet : (c : Folder) → m.may_leave old c → IsLogPut name head (m.seen old) es group c
    nothing_yet c left = record {
      log = log_of es;
      there = b.synced.only c left name ∙ log.there;
      stands = inl (after_shut es [] log.small);
      elsewhere = λ x other. b.synced.only c left x;
    }

    pub after_moment : (k : ℕ) (c : Folder) → MayTear name (offset + 1) k (m.seen old) c → IsLogPut name head (m.seen old) es group c
    after_moment k c tears =
        let file = tears.torn (head ++ log_of es) log.there in
        let left = torn_after head es offset (ends head es log) log.small k file.0 file.2 in
        record { log = left.0; there = file.1 ∙ ap (λ (l : List ℕ). Some l) left.1; stands = inl left.2; elsewhere = tears.elsewhere }

    module _ (next : D) (written : m.seen next name ≡ option_map (λ content. written_over (offset + 1) (drop 1 bytes) content) (m.seen old name)) (others : SameBut name (m.seen old) (m.seen next)) where
      staged : m.seen next name ≡ Some (head ++ gated es (SHUT_GATE ∷ drop 1 bytes))
      staged =
          written ∙ ap (λ (o : Option (List ℕ)). option_map (λ content. written_over (offset + 1) (drop 1 bytes) content) o) log.there
          ∙ ap (λ (l : List ℕ). Some l) (written_after head es offset (ends head es log) (drop 1 bytes))

      pub gate_fits : HasBytes offset (m.seen next name)
      gate_fits = subst (HasBytes offset) (sym staged) (omega (arith, length-staged head es offset (ends head es log) group (drop 1 bytes) (first_gate group bytes g)))

      pub gate_moment : (c : Folder) → MayTear name offset 1 (m.seen next) c → IsLogPut name head (m.seen old) es group c
      gate_moment c tears =
          let file = tears.torn (head ++ gated es (SHUT_GATE ∷ drop 1 bytes)) staged in
          let left = torn_gate head es offset (ends head es log) group (drop 1 bytes) (first_gate group bytes g) log.small g.small file.0 file.2 in
          record {
            log = left.0;
            there = file.1 ∙ ap (λ (l : List ℕ). Some l) left.1;
            stands = left.2;
            elsewhere = λ x other. tears.elsewhere x other ∙ others x other;
          }

      pub is_put : (last : D) → m.seen last name ≡ option_map (λ content. written_over offset (take 1 bytes) content) (m.seen next name) → HasLog name head (es ++ group) (m.seen last)
      is_put last opened = record {
        there =
            opened ∙ ap (λ (o : Option (List ℕ)). option_map (λ content. written_over offset (take 1 bytes) content) o) staged
            ∙ ap (λ (first : List ℕ). Some (written_over offset first (head ++ gated es (SHUT_GATE ∷ drop 1 bytes)))) (first_is group bytes g)
            ∙ ap (λ (l : List ℕ). Some l) (written_gate head es offset (ends head es log) group (drop 1 bytes) (first_gate group bytes g));
        small = small-append es group log.small g.small;
      }

      pub next_offset : offset + length (drop 1 bytes) ≡ length head + length (gated (es ++ group) [])
      next_offset = sym (length-both head es offset (ends head es log) group (drop 1 bytes) (first_gate group bytes g))

  -- no reserved name has a file, as before
  pub still_clean : (last : D) → SameBut name (m.seen old) (m.seen last) → IsClean (m.seen last)
  still_clean last others x reserved = elim (same_name x name) [
    | inl here ↦ absurd (none_some (b.head ++ log_of b.entries) (sym (ap (m.seen old) here ∙ b.log.there) ∙ b.clean x reserved))
    | inr other ↦ others x other ∙ b.clean x reserved
  ]
    where
      none_some : (bytes : List ℕ) → Some bytes ≡ None → ⊥
      none_some bytes is = cc is

module _ {D : Type 0} (m : DiskMeaning D) (name : Name) (disk : D) where
  -- where all that is seen is on the disk and nothing is done, a crash leaves the log without the group
  pub nothing_put : (head : List ℕ) (es group : List LineParts) → IsSyncedDisk m disk → HasLog name head es (m.seen disk) → LeavesOnly m disk disk (IsLogPut name head (m.seen disk) es group)
  nothing_put head es group synced log = started m disk (IsLogPut name head (m.seen disk) es group) (λ (c : Folder) left. record {
    log = log_of es;
    there = synced.only c left name ∙ log.there;
    stands = inl (after_shut es [] log.small);
    elsewhere = λ x other. synced.only c left x;
  })

  -- the log of these bytes
  pub new_between : (bytes head body : List ℕ) (offset : ℕ) → bytes ≡ head ++ body → IsWholeLog body → m.seen disk name ≡ Some bytes → IsSyncedDisk m disk → IsClean (m.seen disk) → offset + 1 ≡ length bytes
      → IsBetweenGroups m name offset disk
  new_between bytes head body offset is whole there synced clean ends =
      let all : bytes ≡ head ++ log_of whole.entries = is ∙ ap (λ (l : List ℕ). head ++ l) whole.is in
      record {
        head = head;
        entries = whole.entries;
        log = record { there = there ∙ ap (λ (l : List ℕ). Some l) all; small = whole.small };
        offset_is = omega (arith, ends, ap length all, length-append head (log_of whole.entries), length-log_of whole.entries);
        synced = synced;
        clean = clean;
      }

pub some_whole : (bytes head body : List ℕ) → bytes ≡ head ++ body → IsWholeLog body → 1 ≤ length bytes
some_whole bytes head body is whole = omega (arith, ap length (is ∙ ap (λ (l : List ℕ). head ++ l) whole.is), length-append head (log_of whole.entries), length-log_of whole.entries)

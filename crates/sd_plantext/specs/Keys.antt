-- The words of the keys of a plan text.
use Rattle.std.specs.Prelude.{ℕ, List, codes}
use Rattle.sd_plantext.specs.declared.fault.PlanKey.{PlanKey}
use Rattle.sd_plantext.specs.declared.fault.PlanKey.TheVariants.{Version, Root, BackupRoot, WaitFirst, WaitSecond, Wait, AbsentDevices, AbsentLinks, Rows, RowsDevice, RowsParent, RowsLink, RowsBackup, RowsBackupLink, Plan, Absent}

-- a key as it stands in its object; the last two are whole texts and stand in none
abbrev pub word_of : PlanKey → List ℕ
word_of Version = codes "version"
word_of Root = codes "root"
word_of BackupRoot = codes "backup_root"
word_of WaitFirst = codes "wait_first"
word_of WaitSecond = codes "wait_second"
word_of Wait = codes "wait"
word_of AbsentDevices = codes "absent_devices"
word_of AbsentLinks = codes "absent_links"
word_of Rows = codes "rows"
word_of RowsDevice = codes "device"
word_of RowsParent = codes "parent"
word_of RowsLink = codes "link"
word_of RowsBackup = codes "backup"
word_of RowsBackupLink = codes "backup_link"
word_of Plan = codes "plan"
word_of Absent = codes "absent"

-- a key as it is printed
abbrev pub printed : PlanKey → List ℕ
printed RowsDevice = codes "rows.device"
printed RowsParent = codes "rows.parent"
printed RowsLink = codes "rows.link"
printed RowsBackup = codes "rows.backup"
printed RowsBackupLink = codes "rows.backup_link"
printed key = word_of key

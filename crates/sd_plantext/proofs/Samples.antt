-- Texts and what they mean, computed by the definition.
use Rattle.std.proofs.Common.{◌≡◌, [], ◌∷◌, None, Some, Ok, Err, codes, refl}
use Rattle.std.specs.Str.Lossy.{utf8_valid_len}
use Rattle.std.specs.Str.{is_utf8, chars}
use Rattle.serde_json.proofs.OnLiterals.{serde_json_on_literals}
use Rattle.sd_plan.specs.Examples.{fabric, hop, row}
use Rattle.sd_plantext.specs.declared.fault.PlanKey.TheVariants.{RowsBackup}
use Rattle.sd_plantext.specs.declared.fault.PlanFault.TheVariants.{Missing, Version}
use Rattle.sd_plantext.specs.Meaning.{place, number, version_in, wait_in, referred, named, array, one_more_name, names_in, absent_in, hop_in, backup_in, row_in, device_in, one_more_row, rows_in, plan_in, plan_of}
use Rattle.sd_plantext.specs.Reading.{tree_of}

-- a plan whose lists are not in the order of the numbers
whole : plan_of fabric
    (tree_of (codes "{\"version\":1,\"root\":\"s1\",\"backup_root\":\"s2\",\"wait_first\":1,\"wait_second\":2,\"wait\":3,\"absent_devices\":[\"l3\",\"l1\"],\"absent_links\":[],\"rows\":[{\"device\":\"l2\",\"parent\":\"s1\",\"link\":\"a2\",\"backup\":null},{\"device\":\"s2\",\"parent\":\"l2\",\"link\":\"b2\",\"backup\":\"l1\",\"backup_link\":\"b1\"}]}"))
    ≡ Ok (record {
      root = 0;
      backup_root = 1;
      wait_first = 1;
      wait_second = 2;
      wait = 3;
      absent = record { devices = 2 ∷ 4 ∷ []; links = [] };
      rows = None ∷ row (hop 3 4) (Some (hop 2 3)) ∷ None ∷ row (hop 0 1) None ∷ None ∷ [];
    })
unfolding serde_json_on_literals utf8_valid_len is_utf8 chars number version_in wait_in referred named array one_more_name names_in absent_in hop_in backup_in
    row_in device_in one_more_row rows_in plan_in plan_of
whole = refl

-- another version
other_version : plan_of fabric (tree_of (codes "{\"root\":5,\"version\":2}")) ≡ Err (Version 2)
unfolding serde_json_on_literals utf8_valid_len is_utf8 chars number version_in wait_in referred named array one_more_name names_in absent_in hop_in backup_in
    row_in device_in one_more_row rows_in plan_in plan_of
other_version = refl

-- a link to a backup that is missing
half_backup : plan_of fabric
    (tree_of (codes "{\"version\":1,\"root\":\"s1\",\"backup_root\":\"s2\",\"wait_first\":1,\"wait_second\":2,\"wait\":3,\"absent_devices\":[],\"absent_links\":[],\"rows\":[{\"device\":\"l2\",\"parent\":\"s1\",\"link\":\"a2\",\"backup_link\":\"b1\"}]}")) ≡ Err (Missing (place RowsBackup 1))
unfolding serde_json_on_literals utf8_valid_len is_utf8 chars number version_in wait_in referred named array one_more_name names_in absent_in hop_in backup_in
    row_in device_in one_more_row rows_in plan_in plan_of
half_backup = refl

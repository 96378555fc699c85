-- The statements on the rows of a store, as they are written.
use Rattle.std.specs.Prelude.{ℕ, zero, suc, List, [], ◌++◌, codes}

abbrev pub add_node : List ℕ
add_node = codes "INSERT INTO node (rel, ent, kclass, label, pattern) VALUES (?1, ?2, ?3, ?4, ?5)"

abbrev pub drop_node : List ℕ
drop_node = codes "DELETE FROM node WHERE rel = ?1 AND ent = ?2 AND kclass = ?3 AND label = ?4"

abbrev pub nodes_of_class : List ℕ
nodes_of_class = codes "SELECT rel, ent, kclass, label, pattern FROM node WHERE rel = ?1 AND label = ?2"

abbrev pub nodes_among : List ℕ
nodes_among = codes "SELECT rel, ent, kclass, label, pattern FROM node WHERE rel = ?1 AND ?2 & (1 << label)"

abbrev pub nodes_of_key : List ℕ
nodes_of_key = codes "SELECT rel, ent, kclass, label, pattern FROM node WHERE rel = ?1 AND ent = ?2 AND kclass = ?3 AND label = ?4"

-- so many cells of one entity and class
abbrev pub tuples : ℕ → List ℕ
tuples zero = []
tuples (suc zero) = codes "(?1, ?2, ?3, ?4, ?, ?)"
tuples (suc more) = codes "(?1, ?2, ?3, ?4, ?, ?), " ++ tuples more

abbrev pub add_cells : ℕ → List ℕ
add_cells count = codes "INSERT INTO cell (rel, ent, kclass, label, attr, value) VALUES " ++ tuples count

abbrev pub set_cell : List ℕ
set_cell = codes "UPDATE cell SET value = ?6 WHERE rel = ?1 AND ent = ?2 AND kclass = ?3 AND label = ?4 AND attr = ?5"

abbrev pub drop_cells : List ℕ
drop_cells = codes "DELETE FROM cell WHERE rel = ?1 AND ent = ?2 AND kclass = ?3 AND label = ?4"

abbrev pub cells_of_class : List ℕ
cells_of_class = codes "SELECT rel, ent, kclass, label, attr, value FROM cell WHERE rel = ?1 AND label = ?2"

abbrev pub cells_among : List ℕ
cells_among = codes "SELECT rel, ent, kclass, label, attr, value FROM cell WHERE rel = ?1 AND ?2 & (1 << label)"

abbrev pub cells_of_tuple : List ℕ
cells_of_tuple = codes "SELECT rel, ent, kclass, label, attr, value FROM cell WHERE rel = ?1 AND ent = ?2 AND kclass = ?3 AND label = ?4"

abbrev pub add_entry : List ℕ
add_entry = codes "INSERT INTO audit (number, bytes) VALUES (?1, ?2)"

abbrev pub clear_entries : List ℕ
clear_entries = codes "DELETE FROM audit"

abbrev pub all_entries : List ℕ
all_entries = codes "SELECT number, bytes FROM audit ORDER BY number"

abbrev pub patterns_of_key : List ℕ
patterns_of_key = codes "SELECT pattern FROM node WHERE rel = ?1 AND ent = ?2 AND kclass = ?3 AND label = ?4"

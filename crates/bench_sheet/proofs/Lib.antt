mod Bench
